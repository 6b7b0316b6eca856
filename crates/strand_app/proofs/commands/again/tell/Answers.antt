use Rattle.std.proofs.Common.{◌≡◌, ◌∙◌, ◌++◌, List, ℕ, append_assoc, ap, refl}
use Rattle.strand_app.specs.AgainOnBank.{verdict_behind}
use Rattle.strand_report.specs.Generation.{generation_line}
use Rattle.strand_app.proofs.commands.again.tell.Goals as goal

four : (a b c old m1 m2 new : List ℕ) → m1 ≡ old ++ a → m2 ≡ m1 ++ b → new ≡ m2 ++ c → new ≡ old ++ (a ++ (b ++ c))
four a b c old m1 m2 new first second third =
    third ∙ ap (λ (t : List ℕ). t ++ c) second ∙ ap (λ (t : List ℕ). t ++ b ++ c) first ∙ append_assoc (old ++ a) b c ∙ append_assoc old a (b ++ c)

pub returns : goal.returns
returns c = record {
  report = c.in_ok-told.told.items;
  reports = c.in_ok-told.ensures;
  put = four (generation_line c.args.number) c.in_ok-told.told.items (verdict_behind c.args.outcome.fault c.args.outcome.least) _ _ _ _ c.in_ok-write_generation.ensures
      (rw c.deref.ensures.value at c.in_ok-put.ensures) c.in_ok-end.ensures.line;
  end = c.in_ok-end.ensures.end;
  held = refl;
}
