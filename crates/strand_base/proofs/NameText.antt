-- Serves the clauses text of Name::as_str and Label::as_str: names are ASCII.
use Rattle.std.proofs.Common.{◌≡◌, ℕ, ◌<◌, Bool, true, false, ◌&&◌, List, length, get_or, arith, inl, inr, refl}
use Rattle.std.specs.Prelude.{nat_le, slice_index}
use Rattle.std.specs.Str.{IsAscii, IsUtf8}
use Rattle.std.specs.List.{list_all}
use Rattle.std.proofs.lemmas.List.{get_or_past}
use Rattle.std.proofs.lemmas.List.Sums.{AllPass-from_list_all}
use Rattle.std.proofs.lemmas.Bool.{cases_lt}
use Rattle.std.proofs.lemmas.Bool.Decides.{nat_tests}
use Rattle.std.proofs.lemmas.Str.{IsUtf8-from_ascii}
use Rattle.strand_base.specs.declared.limits.TheConstants.{MOST_LABEL}
use Rattle.strand_base.specs.Name.{is_label, is_name, is_name_start, is_name_byte}

second : (a b : Bool) → (a && b) ≡ true → b ≡ true
second true b e = e
second false b e = absurd cc

byte_below : (b : ℕ) → is_name_byte b ≡ true → b < 128
byte_below b e = grind (arith, nat_tests)

name_is_ascii : (w : List ℕ) → is_name w ≡ true → IsAscii w
name_is_ascii w e i = elim (cases_lt i (length w)) [
  | inl lt ↦ byte_below (get_or w i 0) (AllPass-from_list_all is_name_byte w (second (nat_le 1 (length w) && is_name_start (slice_index w 0)) (list_all is_name_byte w) e) i 0 lt)
  | inr le ↦ let past : get_or w i 0 ≡ 0 = get_or_past w i 0 le in omega arith
]

pub name_is_utf8 : (w : List ℕ) → is_name w ≡ true → IsUtf8 w
name_is_utf8 w e = IsUtf8-from_ascii w (name_is_ascii w e)

first : (a b : Bool) → (a && b) ≡ true → a ≡ true
first true b e = refl
first false b e = absurd cc

pub label_is_utf8 : (w : List ℕ) → is_label w ≡ true → IsUtf8 w
label_is_utf8 w e = name_is_utf8 w (first (is_name w) (nat_le (length w) MOST_LABEL) e)
