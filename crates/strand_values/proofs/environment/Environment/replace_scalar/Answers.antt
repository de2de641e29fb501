use Rattle.std.proofs.Common.{◌≡◌, true, false, Option, Some, None, get_or, is_some, is_none, sym, ap, ◌∙◌, arith}
use Rattle.script_check.specs.Slots.{slot_in}
use Rattle.std.proofs.lemmas.Bool.{false≢true, true≢false}
use Rattle.serial_meaning.specs.Values.{content_of}
use Rattle.serial_meaning.specs.declared.environment.Content.{Content}
use Rattle.strand_values.specs.Environments.{with_variables, with_optional_content}
use Rattle.strand_values.proofs.Filled.{entry_holds, entry_there, in_table, is_slot, slot_found}
use Rattle.strand_values.proofs.environment.Environment.replace_scalar.Goals as goal

none_there : (o : Option Content) → is_none o ≡ true → is_some o ≡ true → ⊥
none_there None h k = false≢true k
none_there (Some s) h k = false≢true h

some_there : (o : Option Content) → is_none o ≡ false → is_some o ≡ false → ⊥
some_there None h k = true≢false h
some_there (Some s) h k = true≢false k

pub bounds-slots-at : goal.bounds-slots-at
bounds-slots-at c = rw c.at.ensures (in_table c.args.slots.now c.args.self.now.names c.args.target.now c.requires)

pub index-requires : goal.index-requires
index-requires c =
    let i = c.self.inside in
    let env = c.args.self.now in
    let x = c.args.target.now in
    let there : slot_in env.names x.bytes ≡ Some (get_or c.args.slots.now c.at.result 0) = rw c.at.ensures (slot_found c.args.slots.now env.names x c.requires) in
    let within = entry_there i.names.value i.entries.items i.filled.items c.self.invariant env c.self.view_is (get_or c.args.slots.now c.at.result 0) x.bytes there in
    omega (arith, within, i.entries.ok.0)

pub put-requires-clause-there : goal.put-requires-clause-there
put-requires-clause-there c =
    let x = c.args.target.now in
    let names = c.args.self.now.names in
    rw c.at.ensures (is_slot names x.bytes (get_or c.args.slots.now x.at 0) (slot_found c.args.slots.now names x c.requires))

pub put-requires-clause-some : goal.put-requires-clause-some
put-requires-clause-some c = ap (λ o. is_some o) c.of.ensures

pub returns-then-not-is_vacant-clause-there : goal.returns-then-not-is_vacant-clause-there
returns-then-not-is_vacant-clause-there c = λ some.
    let env = c.args.self.now in
    let x = c.args.target.now in
    let there : slot_in env.names x.bytes ≡ Some (get_or c.args.slots.now c.at.result 0) = rw c.at.ensures (slot_found c.args.slots.now env.names x c.requires) in
    c.put.ensures x.bytes there ∙ ap (λ o. with_variables env (with_optional_content env.variables x.bytes o)) c.of.ensures

pub returns-then-not-is_vacant-clause-missing : goal.returns-then-not-is_vacant-clause-missing
returns-then-not-is_vacant-clause-missing c = λ none.
    let i = c.self.inside in
    let env = c.args.self.now in
    let x = c.args.target.now in
    let there : slot_in env.names x.bytes ≡ Some (get_or c.args.slots.now c.at.result 0) = rw c.at.ensures (slot_found c.args.slots.now env.names x c.requires) in
    let holds = entry_holds i.names.value i.entries.items i.filled.items c.self.invariant env c.self.view_is (get_or c.args.slots.now c.at.result 0) x.bytes there c.index.result.now c.index.ensures in
    let content = sym c.is_vacant.ensures ∙ c.if-not-is_vacant.true in
    absurd (some_there (content_of env.variables x.bytes) (ap (λ (o : Option Content). is_none o) (sym holds) ∙ content) none)

pub returns-else-not-is_vacant-clause-there : goal.returns-else-not-is_vacant-clause-there
returns-else-not-is_vacant-clause-there c = λ some.
    let i = c.self.inside in
    let env = c.args.self.now in
    let x = c.args.target.now in
    let there : slot_in env.names x.bytes ≡ Some (get_or c.args.slots.now c.at.result 0) = rw c.at.ensures (slot_found c.args.slots.now env.names x c.requires) in
    let holds = entry_holds i.names.value i.entries.items i.filled.items c.self.invariant env c.self.view_is (get_or c.args.slots.now c.at.result 0) x.bytes there c.index.result.now c.index.ensures in
    let content = sym c.is_vacant.ensures ∙ c.if-not-is_vacant.false in
    absurd (none_there (content_of env.variables x.bytes) (ap (λ (o : Option Content). is_none o) (sym holds) ∙ content) some)
