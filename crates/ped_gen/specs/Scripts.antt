-- The texts of the generated scripts, line by line.
use Rattle.std.specs.Prelude.{ℕ, List, [], ◌∷◌, ◌++◌, codes, decimal, flat_map}
use Rattle.ped_gen.specs.declared.shape.Shape.{Shape}
use Rattle.ped_gen.specs.declared.shape.Shape.TheVariants.{Fib, Tree, Loop}

-- each line followed by a line feed
abbrev pub with_line_feeds : List (List ℕ) → List ℕ
with_line_feeds lines = flat_map (λ line. line ++ codes "\n") lines

abbrev pub fib_text : List ℕ → List ℕ
fib_text size =
    with_line_feeds (
    codes "fn fib(n) {" ∷
    codes "  let a = n;" ∷
    codes "  let b = 0;" ∷
    codes "  if n >= 2 {" ∷
    codes "    a = spawn fib(n - 1);" ∷
    codes "    b = call fib(n - 2);" ∷
    codes "    sync;" ∷
    codes "  }" ∷
    codes "  return a + b;" ∷
    codes "}" ∷
    codes "fn main() {" ∷
    (codes "  let r = call fib(" ++ size ++ codes ");") ∷
    codes "  print r;" ∷
    codes "  return 0;" ∷
    codes "}" ∷
    [])

abbrev pub tree_text : List ℕ → List ℕ
tree_text size =
    with_line_feeds (
    codes "fn tree(n) {" ∷
    codes "  let a = 0;" ∷
    codes "  let b = 0;" ∷
    codes "  if n == 0 {" ∷
    codes "    a = draw;" ∷
    codes "    b = 1;" ∷
    codes "  } else {" ∷
    codes "    a = spawn tree(n - 1);" ∷
    codes "    b = spawn tree(n - 1);" ∷
    codes "    sync;" ∷
    codes "  }" ∷
    codes "  return a + b;" ∷
    codes "}" ∷
    codes "fn main() {" ∷
    (codes "  let s = call tree(" ++ size ++ codes ");") ∷
    codes "  print s;" ∷
    codes "  return 0;" ∷
    codes "}" ∷
    [])

abbrev pub loop_text : List ℕ → List ℕ
loop_text size =
    with_line_feeds (
    codes "fn cell(i) {" ∷
    codes "  let x = draw;" ∷
    codes "  return i * i + x % 10;" ∷
    codes "}" ∷
    codes "fn main() {" ∷
    (codes "  let a[" ++ size ++ codes "];") ∷
    codes "  let s = 0;" ∷
    codes "  let i = 0;" ∷
    (codes "  pfor k in 0.." ++ size ++ codes " into a call cell(k);") ∷
    (codes "  while i < " ++ size ++ codes " {") ∷
    codes "    s = s + a[i];" ∷
    codes "    i = i + 1;" ∷
    codes "  }" ∷
    codes "  print s;" ∷
    codes "  return 0;" ∷
    codes "}" ∷
    [])

-- the script of this shape and size
abbrev pub generated : Shape → ℕ → List ℕ
generated Fib n = fib_text (decimal n)
generated Tree n = tree_text (decimal n)
generated Loop n = loop_text (decimal n)
