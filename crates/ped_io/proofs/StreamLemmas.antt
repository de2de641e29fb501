-- Two transfers, one after the other.
use Rattle.std.proofs.Common.{◌≡◌, ℕ, ◌+◌, ◌-◌, ◌≤◌, List, ◌++◌, length, take, drop, arith, length-append}
use Rattle.std.proofs.lemmas.List.{take_rest}
use Rattle.std.proofs.Math.Seq.{take-add}
use Rattle.std.specs.declared.option.Option.{Option}
use Rattle.std.proofs.KnownBytes.{Appends-trans, Consumes-trans}
use Rattle.ped_io.specs.Streams.{Appends, Consumes, ConsumesAtMost, ConsumesJust}

pub consumes_just : (a b c : Option (List ℕ)) (xs ys : List ℕ) (count : ℕ) → Consumes a b xs → Consumes b c ys → length xs + length ys ≡ count → ConsumesJust a c count
consumes_just a b c xs ys count first second counted =
    (xs ++ ys, omega (arith, length-append xs ys), Consumes-trans a b c xs ys first second)

pub consumes_at_most : (a b c : Option (List ℕ)) (xs ys : List ℕ) (most : ℕ) → Consumes a b xs → Consumes b c ys → length xs + length ys ≤ most → ConsumesAtMost a c most
consumes_at_most a b c xs ys most first second short =
    (xs ++ ys, omega (arith, length-append xs ys), Consumes-trans a b c xs ys first second)

-- A clause reads `&bytes[i..]` as the first `length bytes - i` of what stands after i.
pub appends_then : (a b c : Option (List ℕ)) (bytes : List ℕ) (i n : ℕ) → Appends a b (take i bytes) → Appends b c (take n (take (length bytes - i) (drop i bytes))) → Appends a c (take (i + n) bytes)
appends_then a b c bytes i n first second =
    let rest = rw (take_rest bytes i) at second in
    rw (take-add i n bytes) (Appends-trans a b c _ _ first rest)
