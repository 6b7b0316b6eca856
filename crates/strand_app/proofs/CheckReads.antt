-- Serves clause runs of strand_main, for check: how the files of a claim with its certificate are read.
use Rattle.std.proofs.Common.{◌≡◌, ℕ, ◌+◌, ◌<◌, ◌≤◌, List, [], ◌∷◌, ◌++◌, length, length-append, refl, ap, ◌∙◌, arith, subst}
use Rattle.std.specs.Prelude.{Ok, Err, Some, IfOk, slice_get}
use Rattle.std.specs.declared.result.Result.{Result}
use Rattle.strand_base.specs.FilesSeen.{FilesSeen}
use Rattle.strand_inputs.specs.declared.stop.Stop.{Stop}
use Rattle.strand_refute.specs.CertificateSeen.{CertificateSeen}
use Rattle.strand_report.specs.declared.refusal.ContentFault.{ContentFault}
use Rattle.strand_report.specs.declared.refusal.Refusal.{Refusal}
use Rattle.strand_again.specs.Inputs.{Inputs}
use Rattle.strand_app.specs.Commands.Check.{Claim, claim_reads, check_reads}
use Rattle.strand_app.specs.Contents.{crash_in, certificate_in}
use Rattle.strand_app.specs.Fetching.{FetchesOne, FetchGives}
use Rattle.strand_app.specs.Files.{FetchesFirst, WantsNext, Opened}
use Rattle.strand_app.specs.Reads.{Contents, Reads, in_file, then_reads, given}
use Rattle.strand_app.specs.RunFiles.{run_files, cut_off}
use Rattle.strand_app.proofs.JudgeReads.{AreThree, are_three}
use Rattle.strand_app.proofs.OpensTo.{reads_more, first_among, first_more}
use Rattle.strand_app.proofs.RunReads.{one_more}

two_more : {m : ℕ} → 1 ≤ m → 4 < 3 + (1 + m)
two_more le = omega (arith, le)

module _ (names : List (List ℕ)) (crash certificate : List ℕ) (three : length names ≡ 3) (before between : FilesSeen) (size : ℕ) (stop : Stop) (u : Inputs) (opened : Opened names run_files before between (Ok u)) where
  pub files : AreThree opened.contents
  files = are_three opened.contents (opened.all ∙ three)

  abbrev pub all_names : List (List ℕ)
  all_names = names ++ crash ∷ certificate ∷ []

  abbrev pub contents : Contents
  contents = files.machine ∷ files.image ∷ files.schedule ∷ []

  pub first : FetchesFirst (names ++ crash ∷ certificate ∷ []) before between contents
  first = subst (FetchesFirst (names ++ crash ∷ certificate ∷ []) before between) files.are (first_among names (crash ∷ certificate ∷ []) before between opened.contents opened.fetched)

  says : (others : Contents) → run_files (files.machine ∷ files.image ∷ files.schedule ∷ others) ≡ record { fetches = 3; result = Ok u }
  says others = subst (λ (c : Contents). run_files (c ++ others) ≡ record { fetches = length c; result = Ok u }) files.are (opened.says.is others)

  pub wants_crash : WantsNext (check_reads size stop) contents
  wants_crash others = rw (says others) (one_more {n = 3} (reads_more 1 _ _))

  pub refuses_crash : (content : List ℕ) (refused : Refusal) → in_file 4 (crash_in u.image content) ≡ Err refused → (others : Contents)
      → check_reads size stop (files.machine ∷ files.image ∷ files.schedule ∷ content ∷ others) ≡ record { fetches = 4; result = Err refused }
  refuses_crash content refused is others = rw (says (content ∷ others), is) refl

  -- the crash image was read
  module _ (middle : FilesSeen) (one : FetchesOne between middle) (words : List ℕ) (content : List ℕ) (gives : FetchGives crash content between middle) (is : crash_in u.image content ≡ Ok words)
      (at : slice_get (names ++ crash ∷ certificate ∷ []) 3 ≡ Some crash) where
    abbrev pub four : Contents
    four = files.machine ∷ files.image ∷ files.schedule ∷ content ∷ []

    pub first_four : FetchesFirst (names ++ crash ∷ certificate ∷ []) before middle four
    first_four = first_more (names ++ crash ∷ certificate ∷ []) before between middle contents crash first at one content gives

    pub wants_certificate : WantsNext (check_reads size stop) four
    wants_certificate others = rw (says (content ∷ others), is) (two_more (reads_more 1 _ _))

    pub refuses_certificate : (bad : List ℕ) (refused : Refusal) → in_file 5 (certificate_in bad) ≡ Err refused → (others : Contents)
        → check_reads size stop (files.machine ∷ files.image ∷ files.schedule ∷ content ∷ bad ∷ others) ≡ record { fetches = 5; result = Err refused }
    refuses_certificate bad refused none others = rw (says (content ∷ bad ∷ others), is, none) refl

    -- and the certificate, and the steps were cut off or refused
    module _ (after : FilesSeen) (one' : FetchesOne middle after) (read : CertificateSeen) (content' : List ℕ) (gives' : FetchGives certificate content' middle after) (is' : certificate_in content' ≡ Ok read)
        (at' : slice_get (names ++ crash ∷ certificate ∷ []) 4 ≡ Some certificate) where
      abbrev pub claim : Inputs → Claim
      claim run = record { run = run; crash = words; certificate = read }

      abbrev pub asked : Result Inputs Refusal → Result Claim Refusal
      asked (Ok run) = Ok (claim run)
      asked (Err refused) = Err refused

      asks : (result : Result Inputs Refusal) → then_reads 0 result (λ run. given (claim run)) ≡ record { fetches = 0; result = asked result }
      asks (Ok run) = refl
      asks (Err refused) = refl

      behind : (result : Result Inputs Refusal) → cut_off size stop u ≡ record { fetches = 0; result = result } → (others : Contents)
          → check_reads size stop (four ++ content' ∷ others) ≡ record { fetches = 5; result = asked result }
      behind result cut others =
          ap (λ (r : Reads Inputs). then_reads r.fetches r.result (claim_reads size stop (four ++ content' ∷ others))) (says (content ∷ content' ∷ others))
          ∙ ap (λ (r : Result (List ℕ) ContentFault). then_reads {V = Inputs} 3 (Ok u) (λ all. then_reads 1 (in_file 4 r) (λ c. then_reads 1 (in_file 5 (certificate_in content')) (λ e. then_reads (cut_off size stop all).fetches (cut_off size stop all).result (λ run. given (record { run = run; crash = c; certificate = e })))))) is
          ∙ ap (λ (r : Result CertificateSeen ContentFault). then_reads {V = Inputs} 3 (Ok u) (λ all. then_reads {V = List ℕ} 1 (Ok words) (λ c. then_reads 1 (in_file 5 r) (λ e. then_reads (cut_off size stop all).fetches (cut_off size stop all).result (λ run. given (record { run = run; crash = c; certificate = e })))))) is'
          ∙ ap (λ (r : Reads Inputs). then_reads {V = Inputs} 3 (Ok u) (λ all. then_reads {V = List ℕ} 1 (Ok words) (λ c. then_reads {V = CertificateSeen} 1 (Ok read) (λ e. then_reads r.fetches r.result (λ run. given (claim run)))))) cut
          ∙ ap (λ (r : Reads Claim). then_reads {V = Inputs} 3 (Ok u) (λ all. then_reads {V = List ℕ} 1 (Ok words) (λ c. then_reads {V = CertificateSeen} 1 (Ok read) (λ e. r)))) (asks result)

      pub opens_claim : (result : Result Inputs Refusal) → cut_off size stop u ≡ record { fetches = 0; result = result } → Opened (names ++ crash ∷ certificate ∷ []) (check_reads size stop) before after (asked result)
      opens_claim result cut =
          let more = first_more (names ++ crash ∷ certificate ∷ []) before middle after four certificate first_four at' one' content' gives' in
          record { contents = four ++ content' ∷ []; says = record { first = more.first; is = behind result cut }; fetched = more; all = whole result }
        where
          whole : (result : Result Inputs Refusal) → IfOk (asked result) (λ _. 5 ≡ length (names ++ crash ∷ certificate ∷ []))
          whole (Ok run) = omega (arith, length-append names (crash ∷ certificate ∷ []), three)
          whole (Err refused) = tt
