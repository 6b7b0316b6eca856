-- Serves clause runs of strand_main, for gen, gen-image and gen-schedule: what is read without any file.
use Rattle.std.proofs.Common.{◌≡◌, ℕ, ◌+◌, [], length, take, refl, ap, ◌∙◌, arith, inl, inr}
use Rattle.std.specs.Prelude.{Ok, Err, IfOk}
use Rattle.std.specs.declared.result.Result.{Result}
use Rattle.strand_base.specs.FilesSeen.{FilesSeen}
use Rattle.strand_base.specs.declared.out_of_memory.OutOfMemory.{OutOfMemory as NoMemory}
use Rattle.strand_inputs.specs.declared.stop.Stop.TheVariants.{End}
use Rattle.strand_modules.specs.Bank.{BankSeen}
use Rattle.strand_modules.proofs.FrontWords.{keeps_same}
use Rattle.strand_report.specs.declared.refusal.Refusal.{Refusal}
use Rattle.strand_again.specs.Inputs.{Inputs}
use Rattle.strand_app.specs.declared.fetching.OpenFault.{OpenFault}
use Rattle.strand_app.specs.declared.fetching.OpenFault.TheVariants.{Fetch, Refused, OutOfMemory}
use Rattle.strand_app.specs.declared.opening.RunFiles.{RunFiles}
use Rattle.strand_app.specs.declared.status.Made.{Made}
use Rattle.strand_app.specs.Answers.{AnswersFault, PutsOk}
use Rattle.strand_app.specs.Files.{Opened}
use Rattle.strand_app.specs.Generated.{IsGiven, generated}
use Rattle.strand_app.specs.Opening.{all_inputs}
use Rattle.strand_app.specs.Reads.{Reads, decided, given, then_reads}
use Rattle.strand_app.specs.Rule.{Rule, Text}
use Rattle.strand_app.specs.RunFiles.{bank_holds, cut_off}
use Rattle.strand_app.specs.Runs.{Comes, Stops}
use Rattle.strand_app.specs.Still.{still_rule}
use Rattle.strand_app.specs.World.{World, world}
use Rattle.strand_app.proofs.Comes.{refused_comes, still_comes}
use Rattle.strand_app.proofs.OpensTo.{first_none}

-- no file is named, and none is fetched
all_none : {V : Type 0} (n : ℕ) (result : Result V Refusal) → IfOk result (λ _. n ≡ n)
all_none n (Ok found) = refl
all_none n (Err refused) = tt

pub none_opened : {V : Type 0} (reads : Reads V) (files : FilesSeen) (result : Result V Refusal) → reads ≡ record { fetches = 0; result = result } → Opened [] (λ contents. reads) files files result
none_opened reads files result is = record { contents = []; says = record { first = tt; is = λ others. is }; fetched = first_none [] files; all = all_none 0 result }

-- what is read so was refused, or no memory was left
module _ (r : Rule) {W : Type 0} (view : W → r.Found) (reads : Reads r.Found) (files : FilesSeen) (bank : BankSeen)
    (opens : (result : Result r.Found Refusal) → reads ≡ record { fetches = 0; result = result } → Opened r.names r.opens files files result) (may : (found : r.Found) → r.MayLeave found bank) where
  stops : (result : Result r.Found Refusal) → reads ≡ record { fetches = 0; result = result } → Stops r (world files bank) (world files bank)
  stops (Ok found) is = inl (record { found = found; opened = opens (Ok found) is; kept = keeps_same bank; leaves = may found })
  stops (Err refused) is = inr (inl (record { refused = refused; opened = opens (Err refused) is; same = refl }))

  pub given_fails : (fault : OpenFault) (result : Result Made NoMemory) → IsGiven view reads (Err fault) → IfOk result (AnswersFault fault) → Comes r (world files bank) (world files bank) result
  given_fails (Refused refused) result is answers = refused_comes r view files files bank (Refused refused) result (opens (Err refused) is) answers
  given_fails (Fetch k) result is answers = absurd is
  given_fails OutOfMemory (Ok made) is answers = absurd answers
  given_fails OutOfMemory (Err e) is answers = stops reads.result (ap (λ (n : ℕ). record { fetches = n; result = reads.result }) is)

-- a command that puts a text of what was generated
module _ (seed size : ℕ) (text_of : Inputs → Text) (same : World) where
  abbrev reads : Reads Inputs
  reads = decided (generated seed size)

  abbrev r : Rule
  r = still_rule Inputs [] (λ contents. reads) text_of same.bank

  pub generated_comes : (files : RunFiles) (result : Result Made NoMemory) → IsGiven all_inputs reads (Ok files) → IfOk result (PutsOk (text_of (all_inputs files))) → Comes r same same result
  generated_comes files result is puts =
      still_comes Inputs [] (λ contents. reads) text_of same.files same.files same.bank (all_inputs files) result (none_opened reads same.files (Ok (all_inputs files)) is) puts

  pub generated_fails : (fault : OpenFault) (result : Result Made NoMemory) → IsGiven all_inputs reads (Err fault) → IfOk result (AnswersFault fault) → Comes r same same result
  generated_fails fault result is answers = given_fails r all_inputs reads same.files same.bank (none_opened reads same.files) (λ u. refl) fault result is answers

-- all steps of what was generated, on a bank of so many words
module _ (bank : ℕ) where
  no_fetch : {V X : Type 0} (r : Result V Refusal) (next : V → X) → (then_reads 0 r (λ v. given (next v))).fetches ≡ 0
  no_fetch (Ok v) next = refl
  no_fetch (Err refused) next = refl

  no_fetches : (said : Result Inputs Refusal) → (then_reads 0 said (cut_off bank End)).fetches ≡ 0
  no_fetches (Ok u) = omega (arith, no_fetch (bank_holds bank (length u.image.persistent)) (λ _. record u { steps = take (length u.steps) u.steps }))
  no_fetches (Err refused) = refl

  pub cuts_off_all : (said result : Result Inputs Refusal) (u : Inputs) → decided said ≡ record { fetches = 0; result = Ok u } → cut_off bank End u ≡ record { fetches = 0; result = result }
      → then_reads 0 said (cut_off bank End) ≡ record { fetches = 0; result = result }
  cuts_off_all said result u is cut_off_is =
      ap (λ (r : Reads Inputs). then_reads 0 r.result (cut_off bank End)) is ∙ ap (λ (r : Reads Inputs). record { fetches = 0 + r.fetches; result = r.result }) cut_off_is

  pub not_generated : {V W : Type 0} (view : V → Inputs) (view_all : W → Inputs) (said : Result Inputs Refusal) (fault : OpenFault) → IsGiven view (decided said) (Err fault)
      → IsGiven view_all (then_reads 0 said (cut_off bank End)) (Err fault)
  not_generated view view_all said (Refused refused) is = ap (λ (r : Reads Inputs). then_reads 0 r.result (cut_off bank End)) is
  not_generated view view_all said (Fetch k) is = is
  not_generated view view_all said OutOfMemory is = no_fetches said
