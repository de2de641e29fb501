-- What contracts see of a task's links to its parent and its children.
pub use Rattle.meet_block.specs.Gives.{GiveView}
pub use Rattle.strand_family.specs.Links.{AreJoinNames, LinksView, JoinNames, childless, detached, task_give, tag, tags, origins, HasPassed, HasStopped, LooksAtChildren, links_with_child, AwaitsCount}
