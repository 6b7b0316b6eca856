-- What `retain` keeps is a filter.
use Rattle.std.proofs.Common.{◌∙◌, ap, rules}
use Rattle.std.specs.Prelude.{not, ◌==◌}
use Rattle.arrayvec.proofs.ArrayVecLemmas.{filter-from_retain}
use Rattle.strand_cache.specs.Copies.{others}
use Rattle.strand_cache.proofs.row.Row.drop_line.Goals as goal

pub returns : goal.returns
returns c = filter-from_retain _ (λ held. not (c.args.line == held.line)) _ (λ x b f' y called. search rules) _ _ c.retain.ensures.filtered ∙ ap (others c.args.line) c.self.view_is
