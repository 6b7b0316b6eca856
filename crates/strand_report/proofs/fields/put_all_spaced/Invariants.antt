use Rattle.std.proofs.Common.{◌≡◌, ◌++◌, take}
use Rattle.strand_report.proofs.FieldLines.{spaced_fields}
use Rattle.strand_report.proofs.fields.put_all_spaced.Given as goal

abbrev pub invariant-loop-field : goal.invariant-loop-field
invariant-loop-field l = l.into.items ≡ l.fn.into.items ++ spaced_fields (take l.field-index l.fields)
