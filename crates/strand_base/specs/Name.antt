-- A name is of letters, digits and '_', and does not begin with a digit.
use Rattle.std.specs.Prelude.{ℕ, Bool, ◌||◌, ◌&&◌, ◌==◌, nat_le, List, length, slice_index}
use Rattle.std.specs.List.{list_all}
use Rattle.std.specs.Char.{is_ascii_alphabetic, is_ascii_alphanumeric}
use Rattle.strand_base.specs.declared.limits.TheConstants.{MOST_LABEL}

abbrev pub is_name_start : ℕ → Bool
is_name_start b = is_ascii_alphabetic b || b == 95

abbrev pub is_name_byte : ℕ → Bool
is_name_byte b = is_ascii_alphanumeric b || b == 95

abbrev pub is_name : List ℕ → Bool
is_name w = nat_le 1 (length w) && is_name_start (slice_index w 0) && list_all is_name_byte w

-- A label is a name that is not too long.
abbrev pub is_label : List ℕ → Bool
is_label w = is_name w && nat_le (length w) MOST_LABEL
