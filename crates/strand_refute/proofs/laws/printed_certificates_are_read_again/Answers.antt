use Rattle.strand_refute.proofs.Texts.Again.{certificate_again}
use Rattle.strand_refute.proofs.Texts.Short.{certificate_short}
use Rattle.strand_refute.proofs.laws.printed_certificates_are_read_again.Goals as goal

pub returns-clause-again : goal.returns-clause-again
returns-clause-again c = certificate_again

pub returns-clause-short : goal.returns-clause-short
returns-clause-short c = certificate_short
