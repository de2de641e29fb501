-- Where a run may go on after the events of an instance at a present path, and of a loop's iterations.
use Rattle.std.proofs.Common.{◌≡◌, ◌≤◌, ◌<◌, ◌+◌, ◌⊎◌, inl, inr, ℕ, List, [], ◌∷◌, ◌++◌, length, length-append, append-nil, append_assoc, refl, sym, ◌∙◌, ap, subst, arith}
use Rattle.serial_meaning.proofs.LeastFault.Left.{LeftOf, rank-same, left-ranks, left-longer, left-apart}
use Rattle.span_report.specs.Series.{Begins}
use Rattle.span_report.proofs.Nested.Clear.{too-long}
use Rattle.span_report.proofs.Belonging.Homes.{same-front, begins-begins, fronts}

-- at a path that this one begins with, or right of this one
abbrev pub Past : List ℕ → List ℕ → Type 0
Past path p = Begins p path ⊎ LeftOf path p

-- the same, or at or below this rank or a later one
abbrev pub Coming : List ℕ → ℕ → List ℕ → Type 0
Coming path rank p = Past path p ⊎ ((r : ℕ) × (more : List ℕ) × (p ≡ path ++ r ∷ more) × (rank ≤ r))

pub coming-here : (path : List ℕ) (rank : ℕ) → Coming path rank path
coming-here path rank = inl (inl ([], sym (append-nil path)))

pub coming-next : (path : List ℕ) (rank : ℕ) (p : List ℕ) → Coming path (rank + 1) p → Coming path rank p
coming-next path rank p (inl c) = inl c
coming-next path rank p (inr c) = inr (c.0, c.1, c.2, (let l = c.3 in omega (arith, l)))

-- what begins all that comes after a path with one rank more
left-short : (path : List ℕ) (rank : ℕ) (p : List ℕ) → LeftOf path p → LeftOf (path ++ rank ∷ []) p
left-short path rank p l = subst (LeftOf (path ++ rank ∷ [])) (append-nil p) (left-longer path p (rank ∷ []) [] l)

-- After what stands at and below a rank: right of that, or at a path that it begins with.
pub past-rank : (path : List ℕ) (rank : ℕ) (p : List ℕ) → Coming path (rank + 1) p → Past (path ++ rank ∷ []) p
past-rank path rank p (inl (inl b)) = inl (begins-begins p path (path ++ rank ∷ []) b (rank ∷ [], refl))
past-rank path rank p (inl (inr l)) = inr (left-short path rank p l)
past-rank path rank p (inr c) = inr (subst (LeftOf (path ++ rank ∷ [])) (sym c.2) (left-ranks path rank c.0 [] c.1 (let l = c.3 in omega (arith, l))))

-- and not below it
pub past-apart : (path : List ℕ) (rank : ℕ) (p : List ℕ) → Coming path (rank + 1) p → Begins (path ++ rank ∷ []) p → ⊥
past-apart path rank p (inl (inl b)) d =
    let e : path ≡ path ++ rank ∷ (d.0 ++ b.0) = b.1 ∙ ap (λ (l : List ℕ). l ++ b.0) (d.1 ∙ append_assoc path (rank ∷ []) d.0) ∙ append_assoc path (rank ∷ d.0) b.0 in
    too-long path rank (d.0 ++ b.0) e
past-apart path rank p (inl (inr l)) d = left-apart path p (rank ∷ d.0) [] l (sym (append_assoc path (rank ∷ []) d.0) ∙ sym d.1 ∙ sym (append-nil p))
past-apart path rank p (inr c) d =
    left-apart (path ++ rank ∷ []) p d.0 [] (subst (LeftOf (path ++ rank ∷ [])) (sym c.2) (left-ranks path rank c.0 [] c.1 (let l = c.3 in omega (arith, l)))) (sym d.1 ∙ sym (append-nil p))

-- What comes in a scope at a rank comes from the rank on.
pub coming-in : (path : List ℕ) (rank : ℕ) (p : List ℕ) → Coming (path ++ rank ∷ []) 0 p → Coming path rank p
coming-in path rank p (inl (inl b)) = from b.0 b.1
  where
    from : (more : List ℕ) → path ++ rank ∷ [] ≡ p ++ more → Coming path rank p
    from [] e = inr (rank, [], sym (e ∙ append-nil p), omega arith)
    from (m ∷ ms) e =
        let l : length (path ++ rank ∷ []) ≡ length (p ++ m ∷ ms) = ap (λ (k : List ℕ). length k) e in
        inl (inl (fronts p path (m ∷ ms) (rank ∷ []) (sym e) (omega (arith, l, length-append path (rank ∷ []), length-append p (m ∷ ms)))))
coming-in path rank p (inl (inr l)) = by l.more l.first
  where
    -- They differ at that rank, or before.
    by : (more : List ℕ) → path ++ rank ∷ [] ≡ l.front ++ l.low ∷ more → Coming path rank p
    by [] e =
        let n : length (path ++ rank ∷ []) ≡ length (l.front ++ l.low ∷ []) = ap (λ (k : List ℕ). length k) e in
        let f : path ≡ l.front = same-front path l.front (rank ∷ []) (l.low ∷ []) e (omega (arith, n, length-append path (rank ∷ []), length-append l.front (l.low ∷ []))) in
        let s : rank ≡ l.low = rank-same path rank l.low [] [] (e ∙ ap (λ (k : List ℕ). k ++ l.low ∷ []) (sym f)) in
        let u = l.less in
        inr (l.high, l.rest, l.second ∙ ap (λ (k : List ℕ). k ++ l.high ∷ l.rest) (sym f), omega (arith, s, u))
    by (m ∷ ms) e =
        let n : length (path ++ rank ∷ []) ≡ length (l.front ++ l.low ∷ m ∷ ms) = ap (λ (k : List ℕ). length k) e in
        let b = fronts (l.front ++ l.low ∷ []) path (m ∷ ms) (rank ∷ []) (append_assoc l.front (l.low ∷ []) (m ∷ ms) ∙ sym e)
        (omega (arith, n, length-append path (rank ∷ []), length-append l.front (l.low ∷ m ∷ ms), length-append l.front (l.low ∷ []))) in
        inl (inr (record { front = l.front; low = l.low; high = l.high; more = b.0; rest = l.rest; less = l.less; first = b.1 ∙ append_assoc l.front (l.low ∷ []) b.0; second = l.second }))
coming-in path rank p (inr c) = inr (rank, c.0 ∷ c.1, c.2 ∙ append_assoc path (rank ∷ []) (c.0 ∷ c.1), omega arith)
