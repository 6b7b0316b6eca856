-- Serves no clause: worked examples of persist order, by computation.
use Rattle.std.proofs.Common.{◌≡◌, ℕ, ◌≤◌, true, false, ◌&&◌, List, [], ◌∷◌, refl, sym, ◌∙◌, map, arith}
use Rattle.strand_base.specs.Counting.{any_below}
use Rattle.strand_base.proofs.BelowBound.{any_false}
use Rattle.std.specs.Prelude.{nat_le}
use Rattle.std.proofs.lemmas.Bool.{and_from, le-leb, true≢false}
use Rattle.strand_inputs.specs.declared.mode.Mode.{Mode}
use Rattle.strand_inputs.specs.declared.mode.Mode.TheVariants.{Strict, Epoch, Strand}
use Rattle.strand_events.specs.declared.event.Event.{Event}
use Rattle.strand_events.specs.declared.event.Event.TheVariants.{Store, Barrier, NewStrand}
use Rattle.strand_events.specs.Trace.{strand_number, epoch, persists_of}
use Rattle.strand_events.specs.Order.{directly_before, Leads, Before}
use Rattle.strand_events.proofs.PersistOrder.Epochs.{direct_parts}

-- one core stores to A, passes a barrier, stores to B, begins a strand, and stores to C
first_program : List Event
first_program = Store true 0 1073741824 1 ∷ Barrier 0 ∷ Store true 0 1073741832 1 ∷ NewStrand 0 ∷ Store true 0 1073741840 1 ∷ []

three_persists : persists_of first_program ≡ 0 ∷ 2 ∷ 4 ∷ []
unfolding first_program
three_persists = refl

strands_under_strand : map (strand_number Strand first_program) (0 ∷ 1 ∷ 2 ∷ 3 ∷ 4 ∷ []) ≡ 0 ∷ 0 ∷ 0 ∷ 0 ∷ 1 ∷ []
unfolding first_program
strands_under_strand = refl

epochs_under_strand : map (epoch Strand first_program) (0 ∷ 1 ∷ 2 ∷ 3 ∷ 4 ∷ []) ≡ 0 ∷ 0 ∷ 1 ∷ 1 ∷ 0 ∷ []
unfolding first_program
epochs_under_strand = refl

epochs_under_epoch : map (epoch Epoch first_program) (0 ∷ 1 ∷ 2 ∷ 3 ∷ 4 ∷ []) ≡ 0 ∷ 0 ∷ 1 ∷ 1 ∷ 1 ∷ []
unfolding first_program
epochs_under_epoch = refl

epochs_under_strict : map (epoch Strict first_program) (0 ∷ 1 ∷ 2 ∷ 3 ∷ 4 ∷ []) ≡ 0 ∷ 1 ∷ 1 ∷ 2 ∷ 2 ∷ []
unfolding first_program
epochs_under_strict = refl

-- where no access from low on comes directly before b, none from low on is before it
none_before : (mode : Mode) (t : List Event) (low b : ℕ) → any_below b (λ a. nat_le low a && directly_before mode t a b) ≡ false → (xs : List ℕ) (a : ℕ) → low ≤ a → Leads mode t a xs b → ⊥
none_before mode t low b none [] a le leads =
    let test = and_from (nat_le low a) (directly_before mode t a b) (le-leb low a le) leads in
    true≢false (sym test ∙ any_false b (λ c. nat_le low c && directly_before mode t c b) none a ((direct_parts mode t a b leads).0))
none_before mode t low b none (x ∷ xs) a le leads = none_before mode t low b none xs x (omega (arith, (direct_parts mode t a x leads.0).0)) leads.1

under_strand_a_before_b : Before Strand first_program 0 2
unfolding first_program
under_strand_a_before_b = ([], refl)

under_strand_nothing_before_c : (a : ℕ) → Before Strand first_program a 4 → ⊥
unfolding first_program
under_strand_nothing_before_c a before = none_before Strand first_program 0 4 refl before.0 a (omega arith) before.1

under_epoch_a_before_c : Before Epoch first_program 0 4
unfolding first_program
under_epoch_a_before_c = ([], refl)

under_epoch_b_not_before_c : Before Epoch first_program 2 4 → ⊥
unfolding first_program
under_epoch_b_not_before_c before = none_before Epoch first_program 2 4 refl before.0 2 (omega arith) before.1

under_strict_a_chain_of_three : Before Strict first_program 0 2 × Before Strict first_program 2 4 × Before Strict first_program 0 4
unfolding first_program
under_strict_a_chain_of_three = (([], refl), ([], refl), (2 ∷ [], (refl, refl)))
