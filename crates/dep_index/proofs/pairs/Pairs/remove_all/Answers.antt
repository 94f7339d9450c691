use Rattle.std.proofs.Common.{ap, ◌∙◌}
use Rattle.dep_index.specs.inside.Layout.{link_at, links_in, without_user}
use Rattle.dep_index.specs.Pairs.{Links}
use Rattle.dep_index.proofs.Users.{without_none, without_remove}
use Rattle.dep_index.proofs.pairs.Pairs.remove_all.Goals as goal

pub users-preserved : goal.users-preserved
users-preserved c = record {
  kept = c.take.ensures.kept;
  room = λ n h. c.take.ensures.room n (c.users.invariant.room n h);
  links = ap (λ (ls : Links). without_user ls c.args.to) c.take.ensures.less.links
      ∙ without_remove (links_in c.users.self) (link_at c.users.self.slots.items c.in-Some.slot) c.args.to c.in-Some.ensures.is ∙ c.users.invariant.links;
}

pub returns-clause-links : goal.returns-clause-links
returns-clause-links c = without_none (links_in c.users.self) c.args.to c.in_default.ensures ∙ c.users.invariant.links
