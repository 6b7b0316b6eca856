-- The laws are lemmas.
use Rattle.strand_tags.proofs.LongerTrace.{access_noted, noted_before, other_unnoted, prefix_kept}
use Rattle.strand_tags.proofs.Waits.{wait_by_counts, waits_alike}
use Rattle.strand_tags.proofs.laws.counts_tell_what_waits.Goals as goal

pub returns-clause-waits : goal.returns-clause-waits
returns-clause-waits c mode t durable b fit is = waits_alike mode t durable b is fit

pub returns-clause-missing : goal.returns-clause-missing
returns-clause-missing c t durable core end le = wait_by_counts t durable core end le

pub returns-clause-access : goal.returns-clause-access
returns-clause-access c conflict mode t e is = access_noted t e conflict mode is

pub returns-clause-others : goal.returns-clause-others
returns-clause-others c conflict mode t e is = other_unnoted t e conflict mode is

pub returns-clause-before : goal.returns-clause-before
returns-clause-before c conflict mode t e = noted_before t e conflict mode

pub returns-clause-prefix : goal.returns-clause-prefix
returns-clause-prefix c t e durable core unset = prefix_kept t e durable core unset
