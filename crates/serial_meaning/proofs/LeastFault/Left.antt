-- Paths of which neither begins with the other.
use Rattle.std.proofs.Common.{◌≡◌, ℕ, ◌<◌, List, [], ◌∷◌, ◌++◌, refl, sym, ap, ◌∙◌, subst, append_assoc, arith}
use Rattle.std.proofs.lemmas.List.{append_cancel_left}
use Rattle.ped_path.specs.Path.{IsBefore}
use Rattle.serial_meaning.proofs.RisingPedigrees.Order.{before-by_rank}

first-same : (x y : ℕ) (xs ys : List ℕ) → x ∷ xs ≡ y ∷ ys → x ≡ y
first-same x y xs ys e = ap first e
  where
    first : List ℕ → ℕ
    first [] = x
    first (z ∷ zs) = z

-- the rank after one path
pub rank-same : (path : List ℕ) (k i : ℕ) (xs ys : List ℕ) → path ++ k ∷ xs ≡ path ++ i ∷ ys → k ≡ i
rank-same path k i xs ys e = first-same k i xs ys (append_cancel_left path (k ∷ xs) (i ∷ ys) e)

-- They begin with the same ranks, and the first rank in which they differ is lower in the one.
pub record LeftOf (a b : List ℕ) : Type 0 where
  pub front : List ℕ
  pub low : ℕ
  pub high : ℕ
  pub more : List ℕ
  pub rest : List ℕ
  pub less : low < high
  pub first : a ≡ front ++ low ∷ more
  pub second : b ≡ front ++ high ∷ rest

pub left-ranks : (path : List ℕ) (k i : ℕ) (xs ys : List ℕ) → k < i → LeftOf (path ++ k ∷ xs) (path ++ i ∷ ys)
left-ranks path k i xs ys h = record { front = path; low = k; high = i; more = xs; rest = ys; less = h; first = refl; second = refl }

-- whatever comes after them
pub left-longer : (a b x y : List ℕ) → LeftOf a b → LeftOf (a ++ x) (b ++ y)
left-longer a b x y l = record {
  front = l.front;
  low = l.low;
  high = l.high;
  more = l.more ++ x;
  rest = l.rest ++ y;
  less = l.less;
  first = ap (λ z. z ++ x) l.first ∙ append_assoc l.front (l.low ∷ l.more) x;
  second = ap (λ z. z ++ y) l.second ∙ append_assoc l.front (l.high ∷ l.rest) y;
}

pub left-before : (a b : List ℕ) → LeftOf a b → IsBefore a b
left-before a b l =
    subst (λ z. IsBefore z b) (sym l.first) (subst (IsBefore (l.front ++ l.low ∷ l.more)) (sym l.second) (before-by_rank l.front l.low l.high l.more l.rest l.less))

-- Nothing begins with both.
pub left-apart : (a b x y : List ℕ) → LeftOf a b → a ++ x ≡ b ++ y → ⊥
left-apart a b x y l e =
    let longer = left-longer a b x y l in
    let same : longer.low ≡ longer.high = rank-same longer.front longer.low longer.high longer.more longer.rest (sym longer.first ∙ e ∙ longer.second) in
    let less = longer.less in
    absurd (omega (arith, same, less))
