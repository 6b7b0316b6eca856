-- Serves clause runs of strand_main, for judge: how the files of a question to the judge are read.
use Rattle.std.proofs.Common.{◌≡◌, ℕ, List, [], ◌∷◌, ◌++◌, length, length-append, refl, ap, ◌∙◌, arith, subst}
use Rattle.std.specs.Prelude.{Ok, Err, Some, IfOk, slice_get}
use Rattle.std.specs.declared.result.Result.{Result}
use Rattle.strand_base.specs.FilesSeen.{FilesSeen}
use Rattle.strand_inputs.specs.declared.stop.Stop.{Stop}
use Rattle.strand_report.specs.declared.refusal.ContentFault.{ContentFault}
use Rattle.strand_report.specs.declared.refusal.Refusal.{Refusal}
use Rattle.strand_again.specs.Inputs.{Inputs}
use Rattle.strand_app.specs.Commands.Judge.{Question, crash_reads, judge_reads}
use Rattle.strand_app.specs.Contents.{crash_in}
use Rattle.strand_app.specs.Fetching.{FetchesOne, FetchGives}
use Rattle.strand_app.specs.Files.{FetchesFirst, WantsNext, Opened}
use Rattle.strand_app.specs.Reads.{Contents, Reads, in_file, then_reads, given}
use Rattle.strand_app.specs.RunFiles.{run_files, cut_off}
use Rattle.strand_app.proofs.OpensTo.{reads_more, first_among, first_more}
use Rattle.strand_app.proofs.RunReads.{one_more}

-- the contents of three files
pub record AreThree (contents : Contents) : Type 0 where
  pub machine : List ℕ
  pub image : List ℕ
  pub schedule : List ℕ
  pub are : contents ≡ machine ∷ image ∷ schedule ∷ []

pub are_three : (contents : Contents) → length contents ≡ 3 → AreThree contents
are_three [] e = absurd (omega (arith, e))
are_three (a ∷ []) e = absurd (omega (arith, e))
are_three (a ∷ b ∷ []) e = absurd (omega (arith, e))
are_three (a ∷ b ∷ c ∷ []) e = record { machine = a; image = b; schedule = c; are = refl }
are_three (a ∷ b ∷ c ∷ d ∷ contents) e = absurd (omega (arith, e))

module _ (names : List (List ℕ)) (crash : List ℕ) (three : length names ≡ 3) (before between : FilesSeen) (size : ℕ) (stop : Stop) (u : Inputs) (opened : Opened names run_files before between (Ok u)) where
  pub files : AreThree opened.contents
  files = are_three opened.contents (opened.all ∙ three)

  abbrev pub contents : Contents
  contents = files.machine ∷ files.image ∷ files.schedule ∷ []

  pub first : FetchesFirst (names ++ crash ∷ []) before between contents
  first = subst (FetchesFirst (names ++ crash ∷ []) before between) files.are (first_among names (crash ∷ []) before between opened.contents opened.fetched)

  says : (others : Contents) → run_files (files.machine ∷ files.image ∷ files.schedule ∷ others) ≡ record { fetches = 3; result = Ok u }
  says others = subst (λ (c : Contents). run_files (c ++ others) ≡ record { fetches = length c; result = Ok u }) files.are (opened.says.is others)

  pub wants_crash : WantsNext (judge_reads size stop) contents
  wants_crash others = rw (says others) (one_more {n = 3} (reads_more 1 _ _))

  pub refuses_crash : (content : List ℕ) (refused : Refusal) → in_file 4 (crash_in u.image content) ≡ Err refused → (others : Contents)
      → judge_reads size stop (files.machine ∷ files.image ∷ files.schedule ∷ content ∷ others) ≡ record { fetches = 4; result = Err refused }
  refuses_crash content refused is others = rw (says (content ∷ others), is) refl

  -- the crash image was read, and the steps were cut off or refused
  module _ (after : FilesSeen) (one : FetchesOne between after) (words : List ℕ) (content : List ℕ) (gives : FetchGives crash content between after) (is : crash_in u.image content ≡ Ok words)
      (at : slice_get (names ++ crash ∷ []) 3 ≡ Some crash) where
    abbrev pub question : Inputs → Question
    question run = record { run = run; crash = words }

    abbrev pub asked : Result Inputs Refusal → Result Question Refusal
    asked (Ok run) = Ok (question run)
    asked (Err refused) = Err refused

    asks : (result : Result Inputs Refusal) → then_reads 0 result (λ run. given (question run)) ≡ record { fetches = 0; result = asked result }
    asks (Ok run) = refl
    asks (Err refused) = refl

    behind : (result : Result Inputs Refusal) → cut_off size stop u ≡ record { fetches = 0; result = result } → (others : Contents)
        → judge_reads size stop (contents ++ content ∷ others) ≡ record { fetches = 4; result = asked result }
    behind result cut others =
        ap (λ (r : Reads Inputs). then_reads r.fetches r.result (crash_reads size stop (contents ++ content ∷ others))) (says (content ∷ others))
        ∙ ap (λ (r : Result (List ℕ) ContentFault). then_reads {V = Inputs} 3 (Ok u) (λ all. then_reads 1 (in_file 4 r) (λ c. then_reads (cut_off size stop all).fetches (cut_off size stop all).result (λ run. given (record { run = run; crash = c }))))) is
        ∙ ap (λ (r : Reads Inputs). then_reads {V = Inputs} 3 (Ok u) (λ all. then_reads {V = List ℕ} 1 (Ok words) (λ c. then_reads r.fetches r.result (λ run. given (question run))))) cut
        ∙ ap (λ (r : Reads Question). then_reads {V = Inputs} 3 (Ok u) (λ all. then_reads {V = List ℕ} 1 (Ok words) (λ c. r))) (asks result)

    pub opens_question : (result : Result Inputs Refusal) → cut_off size stop u ≡ record { fetches = 0; result = result } → Opened (names ++ crash ∷ []) (judge_reads size stop) before after (asked result)
    opens_question result cut =
        let more = first_more (names ++ crash ∷ []) before between after contents crash first at one content gives in
        record { contents = contents ++ content ∷ []; says = record { first = more.first; is = behind result cut }; fetched = more; all = whole result }
      where
        whole : (result : Result Inputs Refusal) → IfOk (asked result) (λ _. 4 ≡ length (names ++ crash ∷ []))
        whole (Ok run) = omega (arith, length-append names (crash ∷ []), three)
        whole (Err refused) = tt
