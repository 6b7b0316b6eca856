use Rattle.std.specs.Char.{is_ascii_hexdigit}
use Rattle.strand_base.specs.Number.{hexadecimal_of}
use Rattle.strand_base.proofs.DigitValues.{digits_found}
use Rattle.strand_base.proofs.hexadecimal.read_hex.Goals as goal

pub number_in-requires-clause-digits : goal.number_in-requires-clause-digits
number_in-requires-clause-digits c = digits_found is_ascii_hexdigit c.args.text.now c.no_hex_digit_at.result c.no_hex_digit_at.ensures

pub returns : goal.returns
unfolding hexadecimal_of
returns c = rw (c.number_in.ensures, c.no_hex_digit_at.ensures)
