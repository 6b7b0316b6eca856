-- Serves clause below of read_schedule: the steps that a text gives are of cores and buffers that there are.
use Rattle.std.proofs.Common.{ℕ, ◌<◌, ◌+◌, List, [], ◌∷◌, ◌++◌, replicate, length, Option, Some, None, Result, Ok, Err, subst}
use Rattle.std.specs.Prelude.{IfOk, All, nat_lt, nat_le}
use Rattle.std.proofs.lemmas.Bool.{ltb-true, cond_both}
use Rattle.std.proofs.lemmas.List.Elements.{All-nil, All-append, All-replicate}
use Rattle.strand_base.specs.declared.limits.TheConstants.{MOST_STEPS, MOST_RING, MOST_FLIGHT}
use Rattle.strand_base.specs.Text.{text_lines}
use Rattle.strand_inputs.specs.declared.fault.InputFault.{InputFault}
use Rattle.strand_inputs.specs.declared.fault.InputFault.TheVariants.{Limit}
use Rattle.strand_inputs.specs.declared.step.Step.{Step}
use Rattle.strand_inputs.specs.declared.step.Step.TheVariants as steps
use Rattle.strand_inputs.specs.declared.schedule.RawStep.{RawStep}
use Rattle.strand_inputs.specs.declared.schedule.RawStep.TheVariants as raw
use Rattle.strand_inputs.specs.RawStep.{raw_step_of}
use Rattle.strand_inputs.specs.Reading.{◌>>=◌, each_line, GivesInput}
use Rattle.strand_inputs.specs.Schedule.{number_below, allowed, times, repeat_of, repeat_of_line, with_repeat, line_added, schedule_of, IsBelow}

then_holds : {A B : Type 0} (P : A → Type 0) (Q : B → Type 0) (r : Result A InputFault) (f : A → Result B InputFault)
    → IfOk r P → ((x : A) → P x → IfOk (f x) Q) → IfOk (r >>= f) Q
then_holds P Q (Ok x) f h next = next x h
then_holds P Q (Err e) f h next = tt

then_any : {A B : Type 0} (Q : B → Type 0) (r : Result A InputFault) (f : A → Result B InputFault) → ((x : A) → IfOk (f x) Q) → IfOk (r >>= f) Q
then_any Q (Ok x) f next = next x
then_any Q (Err e) f next = tt

each_holds : {S : Type 0} (P : S → Type 0) (step : S → ℕ → List (List ℕ) → Result S InputFault) → ((s : S) (n : ℕ) (ws : List (List ℕ)) → P s → IfOk (step s n ws) P)
    → (s : S) (ls : List (ℕ × List (List ℕ))) → P s → IfOk (each_line step s ls) P
unfolding each_line
each_holds P step keeps s [] p = p
each_holds P step keeps s (l ∷ ls) p = then_holds P P (step s l.0 l.1) (λ t. each_line step t ls) (keeps s l.0 l.1 p) (λ t q. each_holds P step keeps t ls q)

below_holds : (line n bound : ℕ) → IfOk (number_below line n bound) (λ m. m < bound)
below_holds line n bound = cond_both (nat_lt n bound) (Ok n) (Err (Limit line n)) (λ r. IfOk r (λ m. m < bound)) (λ lt. ltb-true n bound lt) (λ no. tt)

module _ (cores buffers : ℕ) where
  allowed_below : (line : ℕ) (s : RawStep) → IfOk (allowed cores buffers line s) (IsBelow cores buffers)
  allowed_below line (raw.Core n) = then_holds (λ m. m < cores) (IsBelow cores buffers) (number_below line n cores) (λ m. Ok (steps.Core m)) (below_holds line n cores) (λ m lt. lt)
  allowed_below line (raw.Dispatch n) = then_holds (λ m. m < cores) (IsBelow cores buffers) (number_below line n cores) (λ m. Ok (steps.Dispatch m)) (below_holds line n cores) (λ m lt. lt)
  allowed_below line (raw.Send n b j) =
      then_holds (λ m. m < cores) (IsBelow cores buffers) (number_below line n cores) (λ m. number_below line b buffers >>= λ d. number_below line j MOST_RING >>= λ k. Ok (steps.Send m d k)) (below_holds line n cores) (λ m core.
      then_holds (λ d. d < buffers) (IsBelow cores buffers) (number_below line b buffers) (λ d. number_below line j MOST_RING >>= λ k. Ok (steps.Send m d k)) (below_holds line b buffers) (λ d buffer.
      then_any (IsBelow cores buffers) (number_below line j MOST_RING) (λ k. Ok (steps.Send m d k)) (λ k. (core, buffer))))
  allowed_below line (raw.Write j) = then_any (IsBelow cores buffers) (number_below line j MOST_FLIGHT) (λ k. Ok (steps.Write k)) (λ k. tt)

  repeat_below : (line : ℕ) (s : Option (RawStep × ℕ)) → IfOk (repeat_of cores buffers line s) (λ repeat. IsBelow cores buffers repeat.0)
  repeat_below line None = tt
  repeat_below line (Some s) =
      then_holds (IsBelow cores buffers) (λ repeat. IsBelow cores buffers repeat.0) (allowed cores buffers line s.0) (λ step. times line s.1 >>= λ k. Ok (step, k)) (allowed_below line s.0) (λ step h.
      then_any (λ repeat. IsBelow cores buffers repeat.0) (times line s.1) (λ k. Ok (step, k)) (λ k. h))

  line_below : (so_far : List Step) (line : ℕ) (words : List (List ℕ)) → All (IsBelow cores buffers) so_far → IfOk (line_added cores buffers so_far line words) (All (IsBelow cores buffers))
  unfolding line_added repeat_of_line
  line_below so_far line words all =
      then_holds (λ repeat. IsBelow cores buffers repeat.0) (All (IsBelow cores buffers)) (repeat_of cores buffers line (raw_step_of words)) (with_repeat so_far line) (repeat_below line (raw_step_of words)) (λ repeat h.
      cond_both (nat_le (length so_far + repeat.1) MOST_STEPS) (Ok (so_far ++ replicate repeat.1 repeat.0)) (Err (Limit line (length so_far + repeat.1))) (λ r. IfOk r (All (IsBelow cores buffers)))
      (λ yes. All-append (IsBelow cores buffers) so_far (replicate repeat.1 repeat.0) all (All-replicate (IsBelow cores buffers) repeat.1 repeat.0 h)) (λ no. tt))

  schedule_below : (text : List ℕ) → IfOk (schedule_of cores buffers text) (All (IsBelow cores buffers))
  unfolding schedule_of
  schedule_below text = each_holds (All (IsBelow cores buffers)) (line_added cores buffers) line_below [] (text_lines text) (All-nil (IsBelow cores buffers))

  given_below : (r read : Result (List Step) InputFault) → GivesInput (λ s. s) r read → IfOk read (All (IsBelow cores buffers)) → IfOk r (All (IsBelow cores buffers))
  given_below (Ok x) read g h = subst (λ r. IfOk r (All (IsBelow cores buffers))) g h
  given_below (Err f) read g h = tt

  pub read_below : (text : List ℕ) (r : Result (List Step) InputFault) → GivesInput (λ s. s) r (schedule_of cores buffers text) → IfOk r (All (IsBelow cores buffers))
  read_below text r g = given_below r (schedule_of cores buffers text) g (schedule_below text)
