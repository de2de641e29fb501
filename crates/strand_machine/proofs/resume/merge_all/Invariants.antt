use Rattle.std.proofs.Common.{◌≡◌, ◌+◌, length}
use Rattle.strand_machine.specs.InTurn.{in_turn}
use Rattle.strand_machine.specs.Links.{origins}
use Rattle.strand_machine.specs.Merge.{KeepsRest, Merge, TakesAnswers, RemainingFindsAll, IsRemainingOfPlan, merge_of}
use Rattle.strand_machine.specs.AwaitedChildren.{awaited_children}
use Rattle.strand_machine.specs.Stops.{answer_tags}
use Rattle.strand_machine.specs.Tasks.{remaining_of}
use Rattle.strand_machine.proofs.resume.merge_all.Given as goal

-- whoever takes the answers that are left, in order, has taken all
abbrev pub invariant-loop-taken : goal.invariant-loop-taken
invariant-loop-taken g l =
    let all = answer_tags l.fn.answers in
    let rest = in_turn l.taken l.left.items in
    let parts = in_turn l.taken l.after.items in
    record {
      same : length l.left.items ≡ length l.after.items;
      count : l.taken + length l.after.items ≡ l.count;
      takes : (after : Merge) → TakesAnswers (awaited_children (origins (answer_tags rest)) parts) rest (merge_of l.parts l.merging) after →
          TakesAnswers (awaited_children (origins all) l.fn.children.items) l.fn.answers (merge_of l.initial.parts l.initial.merging) after;
      rest : KeepsRest l.initial.parts l.parts;
      of_plan : IsRemainingOfPlan l.parts.state.links.plan l.parts.remaining;
      found : RemainingFindsAll l.parts.state.links.plan parts (remaining_of l.parts.state.links.plan l.parts.remaining);
    }
