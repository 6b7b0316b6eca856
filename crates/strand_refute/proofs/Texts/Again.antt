-- Serves printed_certificates_are_read_again.
use Rattle.std.proofs.Common.{◌≡◌, ℕ, ◌+◌, ◌^◌, ◌<◌, ◌≤◌, true, false, inl, inr, List, [], ◌∷◌, ◌++◌, length, map, Option, Some, None, Ok, refl, sym, ap, ◌∙◌, append_assoc, arith, rules}
use Rattle.std.specs.Prelude.{nat_lt}
use Rattle.std.specs.List.{enumerate_from, AllByRecursion}
use Rattle.std.specs.Fmt.{decimal}
use Rattle.std.specs.Str.{bytes_eq}
use Rattle.std.proofs.lemmas.Bool.{lt-ltb, cases_Bool}
use Rattle.std.proofs.lemmas.Slice.Eq.{bytes_eq-Decides}
use Rattle.std.proofs.lemmas.List.{append-nil, length_push}
use lib.Chars.{codes}
use Rattle.strand_base.specs.Number.{decimal_of}
use Rattle.strand_base.specs.Hexadecimal.{hex16}
use Rattle.strand_base.specs.Text.{line_text, text_of, IsPlainWord, IsPlainLine}
use Rattle.strand_base.proofs.TextAgain.{text_again, decimal_again, decimal_plain}
use Rattle.strand_base.proofs.HexAgain.{hex16_again, hex16_plain}
use Rattle.strand_inputs.specs.Reading.{each_line}
use Rattle.strand_refute.specs.CertificateSeen.{CertificateSeen}
use Rattle.strand_refute.specs.declared.certificate.Reason.{Reason}
use Rattle.strand_refute.specs.declared.certificate.Reason.TheVariants as reasons
use Rattle.strand_refute.specs.declared.certificate.Forced.{Forced}
use Rattle.strand_refute.specs.declared.certificate.Ending.{Ending}
use Rattle.strand_refute.specs.declared.reading.RawLine.{RawLine}
use Rattle.strand_refute.specs.declared.reading.RawLine.TheVariants.{Joined, Order, Match}
use Rattle.strand_refute.specs.declared.reading.Line.TheVariants as lines
use Rattle.strand_refute.specs.declared.limits.TheConstants.{MOST_CERTIFICATE_LINES}
use Rattle.strand_refute.specs.Grammar.{event_or_first, single_of, pair_of, raw_line_of, event_number, event_number_or_none, line_of, line_added, certificate_of, event_words, reason_words, forced_words, ending_words, certificate_text}
use Rattle.strand_refute.specs.Fits.{OptionFits, ReasonFits, ForcedFits, EndingFits, CertificateFits}

small : (n : ℕ) → n < 2 ^ 32 → n < 2 ^ 64
small n lt = omega (arith, lt)

-- a decimal isn't the word 'first'
first_bad : (n : ℕ) → decimal_of (codes "first") ≡ Ok n → ⊥
unfolding decimal_of
first_bad n h = cc

no_first : (n : ℕ) → n < 2 ^ 64 → bytes_eq (decimal n) (codes "first") ≡ false
no_first n fits = elim (cases_Bool (bytes_eq (decimal n) (codes "first"))) [
  | inr other ↦ other
  | inl same ↦ absurd (first_bad n (sym (ap decimal_of ((bytes_eq-Decides (decimal n) (codes "first")).0 same)) ∙ decimal_again n fits))
]

-- an event or 'first'
after_words : Option ℕ → List ℕ
after_words None = codes "first"
after_words (Some e) = decimal e

or_first_again : (o : Option ℕ) → OptionFits o → event_or_first (after_words o) ≡ Some o
unfolding event_or_first after_words
or_first_again None fits = refl
or_first_again (Some e) fits = rw (no_first e (small e fits), decimal_again e (small e fits)) refl

abbrev raw_of : ℕ → Reason → RawLine
raw_of e reasons.Joined = Joined e
raw_of e (reasons.Order after) = Order e after
raw_of e (reasons.Match after) = Match e after

raw_again : (e : ℕ) (r : Reason) → e < 2 ^ 32 → ReasonFits r → raw_line_of (reason_words e r) ≡ Some (raw_of e r)
unfolding single_of pair_of after_words
raw_again e reasons.Joined fits more = rw (decimal_again e (small e fits)) refl
raw_again e (reasons.Order after) fits more = rw (decimal_again e (small e fits), decimal_again after (small after more)) refl
raw_again e (reasons.Match None) fits more = rw (decimal_again e (small e fits), or_first_again None tt) refl
raw_again e (reasons.Match (Some after)) fits more = rw (decimal_again e (small e fits), or_first_again (Some after) more) refl

number_again : (line n : ℕ) → n < 2 ^ 32 → event_number line n ≡ Ok n
number_again line n lt = let t : nat_lt n (2 ^ 32) ≡ true = lt-ltb _ _ lt in rw t refl

or_none_again : (line : ℕ) (o : Option ℕ) → OptionFits o → event_number_or_none line o ≡ Ok o
or_none_again line None fits = refl
or_none_again line (Some e) fits = rw (number_again line e fits) refl

line_again : (line e : ℕ) (r : Reason) → e < 2 ^ 32 → ReasonFits r → line_of line (raw_of e r) ≡ Ok (lines.Forced (record { event = e; reason = r }))
line_again line e reasons.Joined fits more = rw (number_again line e fits) refl
line_again line e (reasons.Order after) fits more = rw (number_again line e fits, number_again line after more) refl
line_again line e (reasons.Match after) fits more = rw (number_again line e fits, or_none_again line after more) refl

added_again : (fs : List Forced) (line : ℕ) (f : Forced) → ForcedFits f → length fs < MOST_CERTIFICATE_LINES
    → line_added (record { forced = fs; ending = None }) line (forced_words f) ≡ Ok (record { forced = fs ++ f ∷ []; ending = None })
unfolding line_added
added_again fs line f fits room =
    let t : nat_lt (length fs) MOST_CERTIFICATE_LINES ≡ true = lt-ltb _ _ room in
    rw (raw_again f.event f.reason fits.0 fits.1, line_again line f.event f.reason fits.0 fits.1, t) refl

ended_again : (fs : List Forced) (line word : ℕ) (last : Option ℕ) → word < 2 ^ 64 → OptionFits last → length fs < MOST_CERTIFICATE_LINES
    → line_added (record { forced = fs; ending = None }) line (codes "no" ∷ hex16 word ∷ event_words last) ≡ Ok (record { forced = fs; ending = Some (record { word = word; last = last }) })
unfolding line_added pair_of after_words
ended_again fs line word None fits more room =
    let t : nat_lt (length fs) MOST_CERTIFICATE_LINES ≡ true = lt-ltb _ _ room in
    rw (hex16_again word fits, or_first_again None tt, t) refl
ended_again fs line word (Some e) fits more room =
    let t : nat_lt (length fs) MOST_CERTIFICATE_LINES ≡ true = lt-ltb _ _ room in
    rw (hex16_again word fits, or_first_again (Some e) more, number_again line e more, t) refl

-- from a line on
lines_again : (n : ℕ) (done fs : List Forced) (ending : Option Ending) → AllByRecursion ForcedFits fs → EndingFits ending
    → length done + length fs + length (ending_words ending) ≤ MOST_CERTIFICATE_LINES
    → each_line line_added (record { forced = done; ending = None }) (enumerate_from n (map forced_words fs ++ ending_words ending)) ≡ Ok (record { forced = done ++ fs; ending = ending })
unfolding each_line
lines_again n done [] None fits more room = ap (λ (l : List Forced). Ok (record { forced = l; ending = None })) (sym (append-nil done))
lines_again n done [] (Some e) fits more room = rw (ended_again done n e.word e.last more.0 more.1 (omega (arith, room))) (ap (λ (l : List Forced). Ok (record { forced = l; ending = Some e })) (sym (append-nil done)))
lines_again n done (f ∷ fs) ending fits more room =
    rw (added_again done n f fits.0 (omega (arith, room))) (lines_again (n + 1) (done ++ f ∷ []) fs ending fits.1 more (omega (arith, room, length_push done f)) ∙ ap (λ (l : List Forced). Ok (record { forced = l; ending = ending })) (append_assoc done (f ∷ []) fs))

-- each line is one of plain words
after_plain : (o : Option ℕ) → OptionFits o → IsPlainWord (after_words o)
unfolding after_words
after_plain None fits = search rules
after_plain (Some e) fits = decimal_plain e (small e fits)

forced_plain : (e : ℕ) (r : Reason) → e < 2 ^ 32 → ReasonFits r → IsPlainLine (reason_words e r)
unfolding after_words
forced_plain e reasons.Joined fits more = (search rules, (decimal_plain e (small e fits), tt))
forced_plain e (reasons.Order after) fits more = (search rules, (decimal_plain e (small e fits), (decimal_plain after (small after more), tt)))
forced_plain e (reasons.Match None) fits more = (search rules, (decimal_plain e (small e fits), (after_plain None tt, tt)))
forced_plain e (reasons.Match (Some after)) fits more = (search rules, (decimal_plain e (small e fits), (after_plain (Some after) more, tt)))

lines_plain : (fs : List Forced) (ending : Option Ending) → AllByRecursion ForcedFits fs → EndingFits ending → AllByRecursion IsPlainLine (map forced_words fs ++ ending_words ending)
unfolding after_words
lines_plain [] None fits more = tt
lines_plain [] (Some e) fits more = ending_plain e.last more.1
  where
    ending_plain : (last : Option ℕ) → OptionFits last → AllByRecursion IsPlainLine ((codes "no" ∷ hex16 e.word ∷ event_words last) ∷ [])
    ending_plain None h = ((search rules, (hex16_plain e.word, (after_plain None tt, tt))), tt)
    ending_plain (Some l) h = ((search rules, (hex16_plain e.word, (after_plain (Some l) h, tt))), tt)
lines_plain (f ∷ fs) ending fits more = (forced_plain f.event f.reason fits.0.0 fits.0.1, lines_plain fs ending fits.1 more)

pub text_append : (xs ys : List (List (List ℕ))) → text_of xs ++ text_of ys ≡ text_of (xs ++ ys)
text_append [] ys = refl
text_append (x ∷ xs) ys = append_assoc (line_text x) (text_of xs) (text_of ys) ∙ ap (λ (s : List ℕ). line_text x ++ s) (text_append xs ys)

pub certificate_again : (c : CertificateSeen) → CertificateFits c → certificate_of (certificate_text c) ≡ Ok c
unfolding certificate_of certificate_text
certificate_again c fits =
    rw (text_append (map forced_words c.forced) (ending_words c.ending), text_again (map forced_words c.forced ++ ending_words c.ending) (lines_plain c.forced c.ending fits.forced fits.ending))
    (lines_again 1 [] c.forced c.ending fits.forced fits.ending (omega (arith, fits.few)))
