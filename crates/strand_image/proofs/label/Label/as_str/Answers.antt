use Rattle.strand_base.proofs.NameText.{label_is_utf8}
use Rattle.strand_image.proofs.label.Label.as_str.Goals as goal

pub returns-in-Err-clause-text : goal.returns-in-Err-clause-text
returns-in-Err-clause-text c = absurd (c.in-Err.ensures.cases.0 (rw c.deref.ensures.value (label_is_utf8 c.self.inside.bytes.items c.self.invariant)))
