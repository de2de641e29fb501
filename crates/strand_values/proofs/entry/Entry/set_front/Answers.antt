use Rattle.std.proofs.Common.{◌≡◌, List, [], refl}
use Rattle.std.specs.Prelude.{ℤ}
use Rattle.serial_meaning.specs.Values.{items_of}
use Rattle.strand_values.specs.Environments.{entry_content}
use Rattle.strand_values.specs.declared.entry.Entry.{Entry}
use Rattle.strand_values.specs.declared.entry.Entry.TheVariants as entry
use Rattle.strand_values.proofs.ItemLemmas.{front_of_none}
use Rattle.strand_values.proofs.entry.Entry.set_front.Goals as goal

-- what is no array has no items
no_items : (e : Entry) → ((xs : List ℤ) → e ≡ entry.Array xs → ⊥) → items_of (entry_content e) ≡ []
no_items entry.Vacant other = refl
no_items (entry.Int n) other = refl
no_items (entry.Id j) other = refl
no_items (entry.Array xs) other = absurd (other xs refl)

pub returns-in_default : goal.returns-in_default
returns-in_default c =
    let none = no_items c.args.self.now c.in_default.not-Array in
    rw (c.new.ensures.items, none, front_of_none c.args.values.now) refl
