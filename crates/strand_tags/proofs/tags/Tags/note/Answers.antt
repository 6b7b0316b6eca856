use Rattle.std.proofs.Common.{refl, sym, subst, rules}
use Rattle.strand_tags.specs.TagsSeen.{TagsSeen, StandFor}
use Rattle.strand_tags.specs.Access.{access, noted_as}
use Rattle.strand_tags.specs.Kept.{seen}
use Rattle.strand_tags.proofs.StandFor.{kept_as, stand_as}
use Rattle.strand_tags.proofs.tags.Tags.note.Goals as goal

pub invariant_of-self : goal.invariant_of-self
invariant_of-self c = kept_as (seen c.self.inside) _ (noted_as (access c.args.core c.args.strand c.args.word c.args.write) c.args.made c.args.wait.now.counts) (search rules) (search rules) (search rules) (search rules) (search rules) (search rules) refl c.self.invariant (rw c.self.view_is c.requires.access)

pub returns-clause-stands : goal.returns-clause-stands
returns-clause-stands c = λ ns stand. stand_as (seen c.self.inside) _ (noted_as (access c.args.core c.args.strand c.args.word c.args.write) c.args.made c.args.wait.now.counts) (search rules) (search rules) (search rules) (search rules) (search rules) (search rules) refl c.self.invariant (rw c.self.view_is c.requires.access) ns (subst (λ (x : TagsSeen). StandFor x ns) (sym c.self.view_is) stand)
