use Rattle.std.proofs.Common.{◌∙◌, ap, ℕ, List}
use Rattle.strand_moves.specs.declared.instance.Instance.{Instance}
use Rattle.strand_moves.specs.declared.instance_parts.InstanceParts.{InstanceParts}
use Rattle.strand_moves.proofs.instance.Instance.unshare_path.Goals as goal

pub returns : goal.returns
returns c =
    let parts = c.deref_mut.result.now in
    let boxed : InstanceParts → Instance = λ p. record { parts = record c.args.self.now.parts { value = p } } in
    ap (λ (path : List ℕ). boxed (record parts { trail = record parts.trail { path = path } })) c.unshare.ensures ∙ ap boxed c.deref_mut.ensures.value
