-- A store takes the line from all other cores, of which none has changed it any more.
use Rattle.std.proofs.Common.{refl, ap, ◌∙◌, subst}
use Rattle.std.specs.Prelude.{not, ◌==◌}
use Rattle.strand_exec.specs.Memory.{extents_of}
use Rattle.strand_cache.specs.Lists.{without_line}
use Rattle.strand_cache.specs.Copies.{row_lines, others, row_of}
use Rattle.strand_cache.specs.Coherence.{Among}
use Rattle.strand_cache.proofs.Memory.RowMembers.{among_filter}
use Rattle.strand_cache.proofs.Memory.Coherence.{dropped}
use Rattle.strand_cache.proofs.Memory.OtherCores.{everywhere, lost_absent, others_lines}
use Rattle.strand_cache.proofs.rows.settle.Goals as goal

pub returns-clause-takes : goal.returns-clause-takes
returns-clause-takes c stores core ne =
    let lost = everywhere (others c.args.line) c.recall.new.rows c.drop_elsewhere.new.rows c.args.core refl c.drop_elsewhere.auto.rows c.drop_elsewhere.ensures.dropped in
    ap row_lines (lost core ne) ∙ others_lines c.args.line (row_of c.recall.new.rows core) ∙ ap (without_line c.args.line) (c.recall.ensures.lines core)

pub returns-clause-free : goal.returns-clause-free
returns-clause-free c core h ne a =
    let lost = everywhere (others c.args.line) c.recall.new.rows c.drop_elsewhere.new.rows c.args.core refl c.drop_elsewhere.auto.rows c.drop_elsewhere.ensures.dropped in
    let member = among_filter (λ k. not (c.args.line == k.line)) (row_of c.recall.new.rows core) h (subst (Among h) (lost core ne) a) in
    c.recall.ensures.free core h ne member.0

pub returns-clause-absent : goal.returns-clause-absent
returns-clause-absent c stores =
    lost_absent c.recall.new.rows c.drop_elsewhere.new.rows c.args.core c.args.line
    (everywhere (others c.args.line) c.recall.new.rows c.drop_elsewhere.new.rows c.args.core refl c.drop_elsewhere.auto.rows c.drop_elsewhere.ensures.dropped)

pub returns-clause-coheres : goal.returns-clause-coheres
returns-clause-coheres c sets ways set flat whole =
    dropped (extents_of c.args.backing.now) sets ways set c.recall.new.rows c.drop_elsewhere.new.rows c.recall.new.backing flat c.args.core c.args.line
    (c.recall.ensures.coheres sets ways set flat whole) c.drop_elsewhere.ensures.own
    (everywhere (others c.args.line) c.recall.new.rows c.drop_elsewhere.new.rows c.args.core refl c.drop_elsewhere.auto.rows c.drop_elsewhere.ensures.dropped)
    c.recall.ensures.free
