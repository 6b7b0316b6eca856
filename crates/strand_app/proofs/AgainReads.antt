-- Serves clause runs of strand_main, for again: how the files of generations are read.
use Rattle.std.proofs.Common.{◌≡◌, ◌∙◌, ℕ, Bool, true, false, nat_le, if◌then◌else◌, zero, suc, ◌+◌, ◌-◌, ◌<◌, ◌≤◌, List, [], ◌∷◌, ◌++◌, length, length-append, map, take, drop, get_or, refl, sym, ap, arith, append_assoc, append-nil, subst}
use Rattle.std.proofs.lemmas.Bool.Decides.{nat_tests}
use Rattle.std.specs.Prelude.{All, Some, None, Ok, Err, IfOk, String, slice_get, slice_index_or, string_bytes}
use Rattle.std.specs.Option.{unwrap_or}
use Rattle.std.proofs.lemmas.List.{length-drop, take_all}
use Rattle.std.proofs.lemmas.List.Elements.{All-append}
use Rattle.std.specs.declared.alloc.Global.{Global}
use Rattle.std.specs.declared.option.Option.{Option}
use Rattle.std.specs.declared.result.Result.{Result}
use Rattle.strand_base.specs.FilesSeen.{FilesSeen}
use Rattle.strand_image.specs.ImageSeen.{ImageSeen}
use Rattle.strand_inputs.specs.Settings.{Settings}
use Rattle.strand_inputs.specs.Stop.{steps_to, stop_of}
use Rattle.strand_inputs.specs.declared.step.Step.{Step}
use Rattle.strand_inputs.specs.declared.stop.Stop.{Stop}
use Rattle.strand_inputs.specs.declared.stop.Stop.TheVariants.{End, At}
use Rattle.strand_inputs.specs.declared.stop.StopPast.{StopPast}
use Rattle.strand_inputs.specs.Schedule.{IsBelow}
use Rattle.strand_report.specs.declared.refusal.ContentFault.{ContentFault}
use Rattle.strand_report.specs.declared.refusal.Refusal.{Refusal}
use Rattle.strand_report.specs.declared.refusal.Refusal.TheVariants as refusal
use Rattle.strand_app.specs.declared.again_words.AgainWords.{AgainWords}
use Rattle.strand_app.specs.declared.commands.again.Cut.{Cut}
use Rattle.strand_app.specs.declared.commands.again.Part.{Part}
use Rattle.strand_app.specs.declared.fetching.OpenFault.{OpenFault}
use Rattle.strand_app.specs.declared.fetching.OpenFault.TheVariants.{Fetch, Refused, OutOfMemory}
use Rattle.strand_app.specs.AgainOnBank.{IsPart, parts_of, steps_of}
use Rattle.strand_app.specs.AgainOpening.{ReadsParts, again_names, first_past, part_at, parts_or, parts_seen, parts_within, program_names, program_seen, schedule_names}
use Rattle.strand_app.specs.Command.{Pair}
use Rattle.strand_app.specs.CommandView.{pairs_asked, pairs_in}
use Rattle.strand_app.specs.Commands.Again.{Parts, again_reads, and_schedule, and_schedules, cut_and, cut_off_all, cut_off_parts, program_reads}
use Rattle.strand_app.specs.Contents.{image_in, machine_in, schedule_in}
use Rattle.strand_app.specs.Fetching.{FetchesOne, FetchGives, FetchesFile}
use Rattle.strand_app.specs.Files.{FetchesFirst, Opened, WantsNext}
use Rattle.strand_app.specs.Opening.{OpensTo}
use Rattle.strand_app.specs.Reads.{Contents, Reads, given, in_file, then_reads}
use Rattle.strand_app.specs.RunFiles.{bank_holds, or_past}
use Rattle.strand_app.proofs.AgainWords.{none_in}
use Rattle.strand_app.proofs.OpensTo.{decides, fails_all, fails_next, first_among, first_more, reads_more}
use Rattle.strand_app.proofs.RunReads.{one_more}

-- what stands behind a list
get_behind : (xs : List (List ℕ)) (y : List ℕ) (ys : List (List ℕ)) → slice_get (xs ++ y ∷ ys) (length xs) ≡ Some y
get_behind [] y ys = refl
get_behind (x ∷ xs) y ys = get_behind xs y ys

index_behind : (xs : List (List ℕ)) (y : List ℕ) (ys : List (List ℕ)) → slice_index_or (xs ++ y ∷ ys) (length xs) [] ≡ y
index_behind [] y ys = refl
index_behind (x ∷ xs) y ys = index_behind xs y ys

-- a machine file and an image
pub wants_config : WantsNext program_reads []
wants_config others = reads_more 1 _ _

module _ (c1 : List ℕ) (config : Settings) (e1 : machine_in c1 ≡ Ok config) where
  pub wants_program : WantsNext program_reads (c1 ∷ [])
  wants_program others = rw e1 (one_more (reads_more 1 _ _))

  pub program_refused : (content : List ℕ) (refused : Refusal) → in_file 2 (image_in content) ≡ Err refused → (others : Contents) → program_reads (c1 ∷ content ∷ others) ≡ record { fetches = 2; result = Err refused }
  program_refused content refused is others = rw (e1, is) refl

  pub program_read : (c2 : List ℕ) (image : ImageSeen) → image_in c2 ≡ Ok image → (others : Contents) → program_reads (c1 ∷ c2 ∷ others) ≡ record { fetches = 2; result = Ok (program_seen (config, image)) }
  program_read c2 image e2 others = rw (e1, e2) refl

-- with one schedule more
abbrev with_steps : Parts → List Step → Parts
with_steps parts steps = record parts { steps = parts.steps ++ steps ∷ [] }

-- one file more behind those that were opened
module _ (names : List (List ℕ)) (name : List ℕ) (k : ℕ) (number : k ≡ suc (length names)) (reads : Contents → Reads Parts) (before between after : FilesSeen) (parts : Parts) (opened : Opened names reads before between (Ok parts))
    (one : FetchesOne between after) where
  abbrev more : Contents → Reads Parts
  more contents = then_reads (reads contents).fetches (reads contents).result (and_schedule k contents)

  first : FetchesFirst (names ++ name ∷ []) before between opened.contents
  first = first_among names (name ∷ []) before between opened.contents opened.fetched

  at : slice_get (names ++ name ∷ []) (length opened.contents) ≡ Some name
  at = subst (λ (n : ℕ). slice_get (names ++ name ∷ []) n ≡ Some name) (sym opened.all) (get_behind names name [])

  place : k - 1 ≡ length opened.contents
  place = omega (arith, number, opened.all)

  -- it says this
  says : (content : List ℕ) (r : Result (List Step) ContentFault) → schedule_in parts.config parts.image content ≡ r → (others : Contents)
      → more ((opened.contents ++ content ∷ []) ++ others) ≡ then_reads (length opened.contents) (Ok parts) (λ p. then_reads 1 (in_file k r) (λ steps. given (with_steps p steps)))
  says content r is others =
      let whole : (opened.contents ++ content ∷ []) ++ others ≡ opened.contents ++ content ∷ others = append_assoc opened.contents (content ∷ []) others in
      let here : slice_index_or (opened.contents ++ content ∷ others) (k - 1) [] ≡ content = ap (λ (n : ℕ). slice_index_or (opened.contents ++ content ∷ others) n []) place ∙ index_behind opened.contents content others in
      ap more whole
      ∙ ap (λ (r : Reads Parts). then_reads r.fetches r.result (and_schedule k (opened.contents ++ content ∷ others))) (opened.says.is (content ∷ others))
      ∙ ap (λ (c : List ℕ). then_reads (length opened.contents) (Ok parts) (λ p. then_reads 1 (in_file k (schedule_in p.config p.image c)) (λ steps. given (with_steps p steps)))) here
      ∙ ap (λ (s : Result (List Step) ContentFault). then_reads {V = Parts} (length opened.contents) (Ok parts) (λ p. then_reads 1 (in_file k s) (λ steps. given (with_steps p steps)))) is

  long : (content : List ℕ) → length opened.contents + 1 ≡ length (opened.contents ++ content ∷ [])
  long content = sym (length-append opened.contents (content ∷ []))

  pub opens_more : (steps : List Step) (content : List ℕ) → FetchGives name content between after → schedule_in parts.config parts.image content ≡ Ok steps
      → Opened (names ++ name ∷ []) more before after (Ok (with_steps parts steps))
  opens_more steps content gives is =
      let fetched = first_more (names ++ name ∷ []) before between after opened.contents name first at one content gives in
      record {
        contents = opened.contents ++ content ∷ [];
        says = record { first = fetched.first; is = λ others. says content (Ok steps) is others ∙ ap (λ (n : ℕ). record { fetches = n; result = Ok (with_steps parts steps) }) (long content) };
        fetched = fetched;
        all = omega (arith, length-append opened.contents (content ∷ []), length-append names (name ∷ []), opened.all);
      }

  wants : WantsNext more opened.contents
  wants others = rw (opened.says.is others) (one_more (reads_more 1 _ _))

  pub fails_more : (fault : OpenFault) → FetchesFile {W = List Step} k (schedule_in parts.config parts.image) (λ steps. steps) name between after (Err fault)
      → OpensTo {W = Parts} (names ++ name ∷ []) more (λ p. p) before after (Err fault)
  fails_more fault fetches =
      fails_next (names ++ name ∷ []) before between after opened.contents name first at one more (λ (p : Parts). p) k (schedule_in parts.config parts.image) (λ (steps : List Step). steps) (number ∙ ap suc (sym opened.all)) wants refuses fault fetches
    where
      refuses : (content : List ℕ) (refused : Refusal) → in_file k (schedule_in parts.config parts.image content) ≡ Err refused → (others : Contents)
          → more ((opened.contents ++ content ∷ []) ++ others) ≡ record { fetches = length (opened.contents ++ content ∷ []); result = Err refused }
      refuses content refused is others =
          says content (schedule_in parts.config parts.image content) refl others
          ∙ ap (λ (s : Result (List Step) Refusal). then_reads {V = Parts} (length opened.contents) (Ok parts) (λ p. then_reads 1 s (λ steps. given (with_steps p steps)))) is
          ∙ ap (λ (n : ℕ). record { fetches = n; result = Err refused }) (long content)

-- and so it is with the files behind one that didn't come or is refused
pub fails_behind : (pairs : List Pair) (k : ℕ) (names : List (List ℕ)) (reads : Contents → Reads Parts) (before after : FilesSeen) (fault : OpenFault) → OpensTo {W = Parts} names reads (λ p. p) before after (Err fault)
    → OpensTo {W = Parts} (names ++ schedule_names pairs) (and_schedules k pairs reads) (λ p. p) before after (Err fault)
fails_behind [] k names reads before after fault opens = subst (λ (n : List (List ℕ)). OpensTo {W = Parts} n reads (λ p. p) before after (Err fault)) (sym (append-nil names)) opens
fails_behind (pair ∷ pairs) k names reads before after fault opens =
    let one = fails_all names (pair.schedule ∷ []) reads (and_schedule k) (λ (p : Parts). p) (λ (p : Parts). p) before after fault opens in
    let rest = fails_behind pairs (suc k) (names ++ pair.schedule ∷ []) (λ contents. then_reads (reads contents).fetches (reads contents).result (and_schedule k contents)) before after fault one in
    subst (λ (n : List (List ℕ)). OpensTo {W = Parts} n (and_schedules k (pair ∷ pairs) reads) (λ p. p) before after (Err fault)) (append_assoc names (pair.schedule ∷ []) (schedule_names pairs)) rest

-- one schedule more is cut off behind the others
abbrev cut_last : Result (List (List Step)) Refusal → Result ℕ Refusal → List Step → Result (List (List Step)) Refusal
cut_last (Err refused) count steps = Err refused
cut_last (Ok cut) (Err refused) steps = Err refused
cut_last (Ok cut) (Ok count) steps = Ok (cut ++ take count steps ∷ [])

cut_one : (count : Result ℕ Refusal) (steps : List Step) → cut_and count steps (Ok []) ≡ cut_last (Ok []) count steps
cut_one (Ok count) steps = refl
cut_one (Err refused) steps = refl

cut_between : (x : Result ℕ Refusal) (s : List Step) (r : Result (List (List Step)) Refusal) (y : Result ℕ Refusal) (steps : List Step) → cut_and x s (cut_last r y steps) ≡ cut_last (cut_and x s r) y steps
cut_between (Err refused) s r y steps = refl
cut_between (Ok count) s (Err refused) y steps = refl
cut_between (Ok count) s (Ok cut) (Err refused) steps = refl
cut_between (Ok count) s (Ok cut) (Ok more) steps = refl

cut_more : (done : List Pair) (all : List (List Step)) (pair : Pair) (steps : List Step) → length all ≡ length done
    → cut_off_all (done ++ pair ∷ []) (all ++ steps ∷ []) ≡ cut_last (cut_off_all done all) (or_past (steps_to pair.stop (length steps))) steps
cut_more [] [] pair steps same = cut_one (or_past (steps_to pair.stop (length steps))) steps
cut_more [] (s ∷ all) pair steps same = absurd (omega (arith, same))
cut_more (p ∷ done) [] pair steps same = absurd (omega (arith, same))
cut_more (p ∷ done) (s ∷ all) pair steps same =
    ap (cut_and (or_past (steps_to p.stop (length s))) s) (cut_more done all pair steps (omega (arith, same)))
    ∙ cut_between (or_past (steps_to p.stop (length s))) s (cut_off_all done all) (or_past (steps_to pair.stop (length steps))) steps

map_behind : (parts : List Part) (part : Part) → map steps_of parts ++ steps_of part ∷ [] ≡ map steps_of (parts ++ part ∷ [])
map_behind [] part = refl
map_behind (p ∷ parts) part = ap (λ (s : List (List Step)). steps_of p ∷ s) (map_behind parts part)

last_is : (parts : List Part) (past : Option StopPast) (count : Result ℕ StopPast) (steps : List Step) → cut_last (parts_or parts past) (or_past count) steps ≡ parts_or (parts ++ part_at steps count) (first_past past count)
last_is parts None (Ok count) steps = ap Ok (map_behind parts (record { schedule = steps; stop = count }))
last_is parts None (Err past) steps = refl
last_is parts (Some past) (Ok count) steps = refl
last_is parts (Some past) (Err other) steps = refl

-- The schedules behind these words are still to be read; of the others these parts were made.
pub record Reading (words : AgainWords) (config : Settings) (image : ImageSeen) (entry now : FilesSeen) (rest : List (List ℕ)) (file : ℕ) (parts : List Part) (past : Option StopPast) : Type 0 where
  pub done : List Pair
  pub all : List (List Step)
  pub reads : Contents → Reads Parts
  pub opened : Opened (program_names words ++ schedule_names done) reads entry now (Ok (record { config = config; image = image; steps = all }))
  pub goes_on : and_schedules file (pairs_in rest) reads ≡ and_schedules 3 (pairs_asked words.pairs.now) program_reads
  pub are : done ++ pairs_in rest ≡ pairs_asked words.pairs.now
  pub number : file ≡ 3 + length done
  pub long : length all ≡ length done
  pub cut_off : cut_off_all done all ≡ parts_or parts past

names_long : (pairs : List Pair) → length (schedule_names pairs) ≡ length pairs
names_long [] = refl
names_long (pair ∷ pairs) = ap suc (names_long pairs)

names_more : (pairs : List Pair) (pair : Pair) → schedule_names pairs ++ pair.schedule ∷ [] ≡ schedule_names (pairs ++ pair ∷ [])
names_more [] pair = refl
names_more (p ∷ pairs) pair = ap (λ (n : List (List ℕ)). p.schedule ∷ n) (names_more pairs pair)

names_split : (one other : List Pair) → schedule_names one ++ schedule_names other ≡ schedule_names (one ++ other)
names_split [] other = refl
names_split (p ∷ one) other = ap (λ (n : List (List ℕ)). p.schedule ∷ n) (names_split one other)

module _ (words : AgainWords) (config : Settings) (image : ImageSeen) (entry : FilesSeen) where
  -- nothing was read yet
  pub reading_none : (now : FilesSeen) → Opened (program_names words) program_reads entry now (Ok (program_seen (config, image))) → Reading words config image entry now (map string_bytes words.pairs.now) 3 [] None
  reading_none now opened = record { done = []; all = []; reads = program_reads; opened = opened; goes_on = refl; are = refl; number = refl; long = refl; cut_off = refl }

  module _ (between after : FilesSeen) (name stop : List ℕ) (behind : List (List ℕ)) (file : ℕ) (parts : List Part) (past : Option StopPast) (reading : Reading words config image entry between (name ∷ stop ∷ behind) file parts past) where
    abbrev pair : Pair
    pair = record { schedule = name; stop = unwrap_or (stop_of stop) End }

    number_is : file ≡ suc (length (program_names words ++ schedule_names reading.done))
    number_is = omega (arith, reading.number, names_long reading.done)

    -- one schedule more
    pub reading_more : (steps : List Step) → FetchesFile file (schedule_in config image) (λ (s : List Step). s) name between after (Ok steps)
        → Reading words config image entry after behind (file + 1) (parts ++ parts_within steps pair.stop) (first_past past (steps_to pair.stop (length steps)))
    reading_more steps fetches =
        let next : suc file ≡ file + 1 = omega arith in
        let opened = opens_more (program_names words ++ schedule_names reading.done) name file number_is reading.reads entry between after _ reading.opened fetches.0 steps fetches.1.content fetches.1.gives fetches.1.is in
        record {
          done = reading.done ++ pair ∷ [];
          all = reading.all ++ steps ∷ [];
          reads = λ contents. then_reads (reading.reads contents).fetches (reading.reads contents).result (and_schedule file contents);
          opened = subst (λ (n : List (List ℕ)). Opened {V = Parts} (program_names words ++ n) (λ contents. then_reads (reading.reads contents).fetches (reading.reads contents).result (and_schedule file contents)) entry after (Ok (record { config = config; image = image; steps = reading.all ++ steps ∷ [] })))
              (names_more reading.done pair) opened;
          goes_on = ap (λ (k : ℕ). and_schedules k (pairs_in behind) (λ contents. then_reads (reading.reads contents).fetches (reading.reads contents).result (and_schedule file contents))) (sym next) ∙ reading.goes_on;
          are = append_assoc reading.done (pair ∷ []) (pairs_in behind) ∙ reading.are;
          number = omega (arith, reading.number, length-append reading.done (pair ∷ []));
          long = omega (arith, reading.long, length-append reading.done (pair ∷ []), length-append reading.all (steps ∷ []));
          cut_off = cut_more reading.done reading.all pair steps reading.long ∙ ap (λ (r : Result (List (List Step)) Refusal). cut_last r (or_past (steps_to pair.stop (length steps))) steps) reading.cut_off
              ∙ last_is parts past (steps_to pair.stop (length steps)) steps;
        }

    -- it didn't come or is refused
    pub reading_fails : (fault : OpenFault) → FetchesFile {W = List Step} file (schedule_in config image) (λ steps. steps) name between after (Err fault)
        → OpensTo {W = Parts} (again_names words) (and_schedules 3 (pairs_asked words.pairs.now) program_reads) (λ p. p) entry after (Err fault)
    reading_fails fault fetches =
        let one = fails_more (program_names words ++ schedule_names reading.done) name file number_is reading.reads entry between after _ reading.opened fetches.0 fault fetches in
        let rest = fails_behind (pairs_in behind) (suc file) _ _ entry after fault one in
        let names = ap (λ (n : List (List ℕ)). program_names words ++ n) (append_assoc (schedule_names reading.done) (name ∷ []) (schedule_names (pairs_in behind)) ∙ names_split reading.done (pair ∷ pairs_in behind) ∙ ap schedule_names reading.are) in
        subst (λ (r : Contents → Reads Parts). OpensTo {W = Parts} (again_names words) r (λ p. p) entry after (Err fault)) reading.goes_on
        (subst (λ (n : List (List ℕ)). OpensTo {W = Parts} n (and_schedules file (pair ∷ pairs_in behind) reading.reads) (λ p. p) entry after (Err fault)) names rest)

-- two words, and those behind them
pub two_words : (words : List (String Global)) (one two : String Global) → one ≡ get_or words 0 one → two ≡ get_or words 1 two → 2 ≤ length words → string_bytes one ∷ string_bytes two ∷ map string_bytes (drop 2 words) ≡ map string_bytes words
two_words [] one two first second many = absurd (omega (arith, many))
two_words (a ∷ []) one two first second many = absurd (omega (arith, many))
two_words (a ∷ b ∷ words) one two first second many = rw (first, second) refl

pub behind_two : (words : List (String Global)) → take (length words - 2) (drop 2 words) ≡ drop 2 words
behind_two words = take_all (length words - 2) (drop 2 words) (omega (arith, length-drop 2 words))

-- one part more, if there is one
pub parts_more : (config : Settings) (image : ImageSeen) (parts : List Part) (steps : List Step) (stop : Stop) → All (IsPart config image) parts → All (IsBelow (length image.entries) config.buffers) steps → All (IsPart config image) (parts ++ parts_within steps stop)
parts_more config image parts steps stop are below = All-append (IsPart config image) parts (parts_within steps stop) are (one (steps_to stop (length steps)) (within stop))
  where
    within : (stop : Stop) → IfOk (steps_to stop (length steps)) (λ count. count ≤ length steps)
    within End = omega arith
    within (At n) = at (nat_le n (length steps)) refl
      where
        at : (b : Bool) → nat_le n (length steps) ≡ b → IfOk {E = StopPast} (if b then Ok n else Err (record { stop = n; steps = length steps })) (λ count. count ≤ length steps)
        at true is = let le : n ≤ length steps = grind (arith, nat_tests, is) in le
        at false is = tt

    one : (count : Result ℕ StopPast) → IfOk count (λ n. n ≤ length steps) → All (IsPart config image) (part_at steps count)
    one (Ok n) le = λ k d lt. head k d lt (record { below = below; stop = le })
      where
        head : (k : ℕ) (d : Part) → k < 1 → IsPart config image (record { schedule = steps; stop = n }) → IsPart config image (slice_index_or (record { schedule = steps; stop = n } ∷ []) k d)
        head zero d lt is = is
        head (suc k) d lt is = absurd (omega (arith, lt))
    one (Err past) le = λ k d lt. absurd (omega (arith, lt))

module _ (words : AgainWords) (config : Settings) (image : ImageSeen) (entry : FilesSeen) where
  -- no memory was left for a part whose schedule was read
  pub reading_stops : (between after : FilesSeen) (name stop : List ℕ) (behind : List (List ℕ)) (file : ℕ) (parts : List Part) (past : Option StopPast) → Reading words config image entry between (name ∷ stop ∷ behind) file parts past
      → FetchesOne between after → OpensTo {W = Parts} (again_names words) (and_schedules 3 (pairs_asked words.pairs.now) program_reads) (λ p. p) entry after (Err OutOfMemory)
  reading_stops between after name stop behind file parts past reading one = reading_fails words config image entry between after name stop behind file parts past reading OutOfMemory (one, tt)

  -- all were read
  pub reading_all : (now : FilesSeen) (rest : List (List ℕ)) (file : ℕ) (cut : Cut) → Reading words config image entry now rest file cut.parts.items cut.past → length rest < 2 → ReadsParts words config image entry now cut
  reading_all now rest file cut reading few =
      let none = none_in rest few in
      let done : reading.done ≡ pairs_asked words.pairs.now = sym (append-nil reading.done) ∙ ap (λ (p : List Pair). reading.done ++ p) (sym none) ∙ reading.are in
      let reads : reading.reads ≡ and_schedules 3 (pairs_asked words.pairs.now) program_reads = ap (λ (p : List Pair). and_schedules file p reading.reads) (sym none) ∙ reading.goes_on in
      record {
        steps = reading.all;
        opened = subst (λ (r : Contents → Reads Parts). Opened {V = Parts} (again_names words) r entry now (Ok (record { config = config; image = image; steps = reading.all }))) reads
            (subst (λ (p : List Pair). Opened {V = Parts} (program_names words ++ schedule_names p) reading.reads entry now (Ok (record { config = config; image = image; steps = reading.all }))) done reading.opened);
        cut_off = ap (λ (p : List Pair). cut_off_all p reading.all) (sym done) ∙ reading.cut_off;
      }

-- what is decided of all of them, on a bank that has room or hasn't
abbrev pub decided_parts : Settings → ImageSeen → List Part → Option StopPast → Result (Unit {0}) Refusal → Result Parts Refusal
decided_parts config image parts (Some past) room = Err (refusal.Stop past)
decided_parts config image parts None (Err refused) = Err refused
decided_parts config image parts None (Ok fits) = Ok (parts_of config image parts)

decides_parts : (config : Settings) (image : ImageSeen) (parts : List Part) (past : Option StopPast) (room : Result (Unit {0}) Refusal)
    → then_reads 0 (parts_or parts past) (λ steps. then_reads 0 room (λ _. given (record { config = config; image = image; steps = steps }))) ≡ record { fetches = 0; result = decided_parts config image parts past room }
decides_parts config image parts (Some past) room = refl
decides_parts config image parts None (Err refused) = refl
decides_parts config image parts None (Ok fits) = refl

module _ (words : AgainWords) (size : ℕ) (before after : FilesSeen) (config : Settings) (image : ImageSeen) where
  abbrev pairs : List Pair
  pairs = pairs_asked words.pairs.now

  pub parts_opened : (cut : Cut) (room : Result (Unit {0}) Refusal) → ReadsParts words config image before after cut → bank_holds size (length image.persistent) ≡ room
      → Opened (again_names words) (again_reads size pairs) before after (decided_parts config image cut.parts.items cut.past room)
  parts_opened cut room reads fits = decides (again_names words) (and_schedules 3 pairs program_reads) (cut_off_parts size pairs) _ before after _ is reads.opened
    where
      is : cut_off_parts size pairs (record { config = config; image = image; steps = reads.steps }) ≡ record { fetches = 0; result = decided_parts config image cut.parts.items cut.past room }
      is = ap (λ (r : Result (List (List Step)) Refusal). then_reads 0 r (λ steps. then_reads 0 (bank_holds size (length image.persistent)) (λ _. given (record { config = config; image = image; steps = steps })))) reads.cut_off
          ∙ ap (λ (r : Result (Unit {0}) Refusal). then_reads 0 (parts_or cut.parts.items cut.past) (λ steps. then_reads 0 r (λ _. given (record { config = config; image = image; steps = steps })))) fits
          ∙ decides_parts config image cut.parts.items cut.past room

module _ (words : AgainWords) (size : ℕ) (before after : FilesSeen) where
  abbrev asked : List Pair
  asked = pairs_asked words.pairs.now

  -- they didn't come, or are refused
  pub parts_failed : (fault : OpenFault) → OpensTo {W = Parts} (again_names words) (and_schedules 3 asked program_reads) (λ p. p) before after (Err fault) → OpensTo (again_names words) (again_reads size asked) parts_seen before after (Err fault)
  parts_failed fault opens =
      subst (λ (n : List (List ℕ)). OpensTo n (again_reads size asked) parts_seen before after (Err fault)) (append-nil (again_names words))
      (fails_all (again_names words) [] (and_schedules 3 asked program_reads) (λ contents. cut_off_parts size asked) (λ (p : Parts). p) parts_seen before after fault opens)

  pub program_failed : (fault : OpenFault) → OpensTo (program_names words) program_reads program_seen before after (Err fault) → OpensTo (again_names words) (again_reads size asked) parts_seen before after (Err fault)
  program_failed fault opens = parts_failed fault (fails_behind asked 3 (program_names words) program_reads before after fault (as_read fault opens))
    where
      as_read : (fault : OpenFault) → OpensTo (program_names words) program_reads program_seen before after (Err fault) → OpensTo {W = Parts} (program_names words) program_reads (λ p. p) before after (Err fault)
      as_read (Refused refused) opens = opens
      as_read (Fetch k) opens = opens
      as_read OutOfMemory opens = opens
