-- Serves clause runs of strand_main, for run, trace and judge: how the files of a run are read.
use Rattle.std.proofs.Common.{◌≡◌, ℕ, ◌+◌, ◌<◌, ◌≤◌, List, [], ◌∷◌, length, refl, ap, ◌∙◌, arith}
use Rattle.std.specs.Prelude.{Ok, Err, IfOk}
use Rattle.std.specs.declared.result.Result.{Result}
use Rattle.strand_image.specs.ImageSeen.{ImageSeen}
use Rattle.strand_inputs.specs.Settings.{Settings}
use Rattle.strand_inputs.specs.declared.step.Step.{Step}
use Rattle.strand_report.specs.declared.refusal.Refusal.{Refusal}
use Rattle.strand_base.specs.FilesSeen.{FilesSeen}
use Rattle.strand_inputs.specs.declared.stop.Stop.{Stop}
use Rattle.strand_again.specs.Inputs.{Inputs, inputs}
use Rattle.strand_app.specs.Contents.{machine_in, image_in, schedule_in}
use Rattle.strand_app.specs.Files.{WantsNext, Opened}
use Rattle.strand_app.specs.Reads.{Contents, Reads, in_file, then_reads}
use Rattle.strand_app.specs.RunFiles.{run_files, cut_off}
use Rattle.strand_app.specs.Commands.Run.{run_reads}
use Rattle.strand_app.proofs.OpensTo.{decides, reads_more}

pub one_more : {n m : ℕ} → 1 ≤ m → n < n + m
one_more some = omega (arith, some)

one_then : {m : ℕ} → 1 < m → 2 < 1 + m
one_then some = omega (arith, some)

pub wants_machine : WantsNext run_files []
wants_machine others = reads_more 1 _ _

module _ (c1 : List ℕ) (config : Settings) (e1 : machine_in c1 ≡ Ok config) where
  pub wants_image : WantsNext run_files (c1 ∷ [])
  wants_image others = rw e1 (one_more (reads_more 1 _ _))

  pub image_refused : (content : List ℕ) (refused : Refusal) → in_file 2 (image_in content) ≡ Err refused → (others : Contents) → run_files (c1 ∷ content ∷ others) ≡ record { fetches = 2; result = Err refused }
  image_refused content refused is others = rw (e1, is) refl

  module _ (c2 : List ℕ) (image : ImageSeen) (e2 : image_in c2 ≡ Ok image) where
    pub wants_schedule : WantsNext run_files (c1 ∷ c2 ∷ [])
    wants_schedule others = rw (e1, e2) (one_then (one_more (reads_more 1 _ _)))

    pub schedule_refused : (content : List ℕ) (refused : Refusal) → in_file 3 (schedule_in config image content) ≡ Err refused → (others : Contents)
        → run_files (c1 ∷ c2 ∷ content ∷ others) ≡ record { fetches = 3; result = Err refused }
    schedule_refused content refused is others = rw (e1, e2, is) refl

    pub all_read : (c3 : List ℕ) (steps : List Step) → schedule_in config image c3 ≡ Ok steps → (others : Contents)
        → run_files (c1 ∷ c2 ∷ c3 ∷ others) ≡ record { fetches = 3; result = Ok (inputs config image steps) }
    all_read c3 steps is others = rw (e1, e2, is) refl

-- what is run of the files that were read
pub cuts_off : (names : List (List ℕ)) (size : ℕ) (stop : Stop) (u : Inputs) (before after : FilesSeen) (result : Result Inputs Refusal) → cut_off size stop u ≡ record { fetches = 0; result = result }
    → Opened names run_files before after (Ok u) → Opened names (run_reads size stop) before after result
cuts_off names size stop u before after result is opened = decides names run_files (cut_off size stop) u before after result is opened
