-- Bytes that are put after others.
use Rattle.std.proofs.Common.{◌≡◌, ℕ, ◌+◌, Option, Result, Ok, Err, List, [], ◌++◌, length, take, refl, sym, ap, ◌∙◌, subst, append_assoc, append-nil, length-append, arith}
use Rattle.std.specs.Prelude.{OnErr, OnOk}
use Rattle.std.proofs.KnownBytes.{Appends-nil, Appends-trans}
use Rattle.std.proofs.Math.Seq.{take-append-add}
use Rattle.std.proofs.lemmas.List.{take-append-le}
use Rattle.ped_io.specs.Streams.{Appends, AppendsFront}
use Rattle.run_lines.specs.Puts.{Puts}

-- They wait with the others.
pub puts_waiting : (a : Option (List ℕ)) (w v x : List ℕ) → v ≡ w ++ x → Puts a a w v x
puts_waiting a w v x e = record { written = []; appends = Appends-nil a; all = sym e }

pub puts_none : (a : Option (List ℕ)) (w x : List ℕ) → x ≡ [] → Puts a a w w x
puts_none a w x e = puts_waiting a w w x (sym (ap (λ l. w ++ l) e ∙ append-nil w))

pub puts_then : (a b c : Option (List ℕ)) (w v u x y : List ℕ) → Puts a b w v x → Puts b c v u y → Puts a c w u (x ++ y)
puts_then a b c w v u x y p q = record {
  written = p.written ++ q.written;
  appends = Appends-trans a b c p.written q.written p.appends q.appends;
  all = sym (append_assoc w x y) ∙ ap (λ l. l ++ y) p.all ∙ append_assoc p.written v y ∙ ap (λ l. p.written ++ l) q.all ∙ sym (append_assoc p.written q.written u);
}

-- a front of some bytes is one of these and others
pub front_more : (a b : Option (List ℕ)) (xs ys : List ℕ) → AppendsFront a b xs → AppendsFront a b (xs ++ ys)
front_more a b xs ys (n, le, more) =
    let long = length-append xs ys in (n, omega (arith, long, le), subst (Appends a b) (sym (take-append-le n xs ys le)) more)

-- bytes were put before a failure
pub front_then : (a b c : Option (List ℕ)) (w v x y : List ℕ) → Puts a b w v x → AppendsFront b c (v ++ y) → AppendsFront a c (w ++ (x ++ y))
front_then a b c w v x y p (n, le, more) =
    let split : w ++ (x ++ y) ≡ p.written ++ (v ++ y) = sym (append_assoc w x y) ∙ ap (λ l. l ++ y) p.all ∙ append_assoc p.written v y in
    let cut : take (length p.written + n) (w ++ (x ++ y)) ≡ p.written ++ take n (v ++ y) = ap (take (length p.written + n)) split ∙ take-append-add p.written (v ++ y) n in
    let long : length (w ++ (x ++ y)) ≡ length p.written + length (v ++ y) = ap length split ∙ length-append p.written (v ++ y) in
    (length p.written + n, omega (arith, long, le), subst (Appends a c) (sym cut) (Appends-trans a b c p.written (take n (v ++ y)) p.appends more))

pub on_err : {E : Type 0} (P : Type 0) (r : Result (Unit {0}) E) → P → OnErr r P
on_err {E} P (Ok u) p = tt
on_err {E} P (Err e) p = p

-- The first of some bytes were put, and the others follow.
module _ (a b c : Option (List ℕ)) (w v whole x y : List ℕ) (split : whole ≡ x ++ y) where
  pub ok_after : (u : List ℕ) {E : Type 0} (r : Result (Unit {0}) E) → Puts a b w v x → OnOk r (Puts b c v u y) → OnOk r (Puts a c w u whole)
  ok_after u {E} (Ok _) p q = subst (Puts a c w u) (sym split) (puts_then a b c w v u x y p q)
  ok_after u {E} (Err _) p q = tt

  pub err_after : {E : Type 0} (r : Result (Unit {0}) E) → Puts a b w v x → OnErr r (AppendsFront b c (v ++ y)) → OnErr r (AppendsFront a c (w ++ whole))
  err_after {E} (Ok _) p q = tt
  err_after {E} (Err _) p q = subst (AppendsFront a c) (ap (λ l. w ++ l) (sym split)) (front_then a b c w v x y p q)

-- They were not put whole.
pub err_first : (a b : Option (List ℕ)) (w whole x y : List ℕ) → whole ≡ x ++ y → AppendsFront a b (w ++ x) → AppendsFront a b (w ++ whole)
err_first a b w whole x y split front =
    subst (AppendsFront a b) (append_assoc w x y ∙ ap (λ l. w ++ l) (sym split)) (front_more a b (w ++ x) y front)

-- What waited is written, and then the bytes.
module _ (a b c : Option (List ℕ)) (w x : List ℕ) (flushed : Appends a b w) where
  pub ok_flushed : (v : List ℕ) {E : Type 0} (r : Result (Unit {0}) E) → v ≡ [] → OnOk r (Appends b c x) → OnOk r (Puts a c w v x)
  ok_flushed v {E} (Ok _) none more = record {
    written = w ++ x;
    appends = Appends-trans a b c w x flushed more;
    all = sym (ap (λ l. (w ++ x) ++ l) none ∙ append-nil (w ++ x));
  }
  ok_flushed v {E} (Err _) none more = tt

  pub err_flushed : {E : Type 0} (r : Result (Unit {0}) E) → OnErr r (AppendsFront b c x) → OnErr r (AppendsFront a c (w ++ x))
  err_flushed {E} (Ok _) more = tt
  err_flushed {E} (Err _) more = front_then a b c w [] [] x (record { written = w; appends = flushed; all = refl }) more

-- Bytes were put where nothing waited, and then what waits isn't written whole.
module _ (a b c : Option (List ℕ)) (w v x : List ℕ) (none : w ≡ []) (puts : Puts a b w v x) where
  all_of : x ≡ puts.written ++ v
  all_of = ap (λ l. l ++ x) (sym none) ∙ puts.all

  pub err_then_flushed : {E : Type 0} (r : Result (Unit {0}) E) → OnErr r (AppendsFront b c v) → OnErr r (AppendsFront a c x)
  err_then_flushed {E} (Ok _) more = tt
  err_then_flushed {E} (Err _) more =
      subst (AppendsFront a c) (sym all_of) (front_then a b c puts.written [] [] v (record { written = puts.written; appends = puts.appends; all = refl }) more)
