use Rattle.std.proofs.Common.{◌≡◌, ℕ, ◌+◌, ◌<◌, suc, false, List, length, ◌∙◌, sym, ap, arith}
use Rattle.std.specs.Prelude.{◌==◌, slice_get, slice_index_or}
use Rattle.std.proofs.lemmas.Bool.{eq-eqb, ne_eqb}
use Rattle.std.proofs.lemmas.Option.{slice_get-get_or}
use Rattle.strand_base.proofs.BelowBound.{any_from}
use Rattle.strand_control.specs.declared.request.Request.{Request}
use Rattle.strand_control.specs.Flight.{has_word, older_waits}
use Rattle.strand_control.proofs.controller.older_waits.Goals as goal

abbrev none : Request
none = record { core = 0; buffer = 0; number = 0; word = 0; value = 0 }

-- whether the request at a place has a word
has_word_at : (requests : List Request) (i word : ℕ) → i < length requests → has_word word (slice_get requests i) ≡ ((slice_index_or requests i none).word == word)
has_word_at requests i word lt = ap (has_word word) (slice_get-get_or requests i none lt)

pub returns-then-requests-i : goal.returns-then-requests-i
returns-then-requests-i c =
    sym (any_from c.args.j (λ i. has_word c.args.word (slice_get c.args.requests.now i)) c.loop-i.i c.loop-i-test.true
    (has_word_at c.args.requests.now c.loop-i.i c.args.word (omega arith) ∙ eq-eqb (slice_index_or c.args.requests.now c.loop-i.i none).word c.args.word c.if-requests-i.true))

pub loop-i-preserved : goal.loop-i-preserved
loop-i-preserved c =
    let one : c.loop-i.i + 1 ≡ suc c.loop-i.i = omega arith in
    let here : has_word c.args.word (slice_get c.args.requests.now c.loop-i.i) ≡ false =
    has_word_at c.args.requests.now c.loop-i.i c.args.word (omega arith) ∙ ne_eqb (slice_index_or c.args.requests.now c.loop-i.i none).word c.args.word c.if-requests-i.false in
    ap (λ n. older_waits c.args.requests.now n c.args.word) one ∙ rw here c.loop-i.invariant
