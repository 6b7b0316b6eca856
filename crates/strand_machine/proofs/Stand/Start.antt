-- Serves clause parts of Machine::new: the parts before the first step.
use Rattle.std.proofs.Common.{◌≡◌, ℕ, zero, suc, ◌<◌, List, [], length, map, replicate, refl, sym, ap, subst, ◌∙◌, arith}
use Rattle.std.specs.Prelude.{drop, slice_index, slice_index_or}
use Rattle.std.proofs.lemmas.List.{length-map, length-replicate, get_or-replicate}
use Rattle.strand_base.specs.declared.limits.TheConstants.{CORE_ROOM}
use Rattle.strand_exec.specs.Core as cores
use Rattle.strand_exec.specs.Core.{Extents}
use Rattle.strand_exec.specs.Memory.{Memory}
use Rattle.strand_inputs.specs.Settings.{Settings}
use Rattle.strand_image.specs.ImageSeen.{ImageSeen}
use Rattle.strand_exec.specs.Core.{fresh}
use Rattle.strand_rules.specs.Cycle.{gone, start_at}
use Rattle.strand_rules.specs.Machine.{Machine, machine_at, program_of, start_of}
use Rattle.strand_cache.specs.Seen.{CachesStand}
use Rattle.strand_machine.proofs.Stand.Cache.{cache_start}
use Rattle.strand_machine.proofs.Stand.Machine.{Stands, HasRooms}
use Rattle.strand_inputs.specs.declared.mode.Mode.{Mode}
use Rattle.strand_inputs.specs.declared.mode.Mode.TheVariants.{Strict, Epoch, Strand}
use Rattle.strand_rules.specs.Looking.{next_strand}
use Rattle.strand_buffer.specs.Buffers.{empty_buffers}
use Rattle.strand_queue.specs.Queue.{queue}
use Rattle.strand_tags.specs.TagsSeen.{TagsSeen, StandFor}
use Rattle.strand_tags.specs.WaitEntries.{KeepsWaits, no_waits}
use Rattle.strand_machine.specs.Changed.{empty_tally, start_parts}
use Rattle.strand_machine.specs.Stand.{item_of, BuffersStand, Tally, TallyStands, PartsSeen, Stand, no_queue, no_buffers, no_tally, tally_at}

drop_none : {X : Type 0} (k : ℕ) → drop {A = X} k [] ≡ []
drop_none zero = refl
drop_none (suc k) = refl

pub empty_at : {X : Type 0} (n i : ℕ) → slice_index_or (replicate {A = List X} n []) i [] ≡ []
empty_at zero i = refl
empty_at (suc n) zero = refl
empty_at (suc n) (suc i) = empty_at n i

zero_at : (n i : ℕ) → slice_index (replicate n 0) i ≡ 0
zero_at zero i = refl
zero_at (suc n) zero = refl
zero_at (suc n) (suc i) = zero_at n i

next_none : (mode : Mode) (n : ℕ) → next_strand mode [] n ≡ 0
next_none Strict n = refl
next_none Epoch n = refl
next_none Strand n = refl

-- a core that has made nothing keeps no waits
keeps_none : (mode : Mode) (n : ℕ) → KeepsWaits mode [] n no_waits
keeps_none mode n c lt = let none : slice_index (replicate CORE_ROOM 0) c ≡ 0 = zero_at CORE_ROOM c in cc none

-- they stand for the state before the first step
pub stand_start : (g : Settings) (x : Extents) (cs : List cores.Core) (memory : Memory) (room : ℕ) (tags : TagsSeen) → tags.extents ≡ x → tags.strands ≡ replicate (length cs) 0 → tags.made ≡ replicate (length cs) 0 → StandFor tags []
    → CachesStand (start_parts g (length cs) memory room tags).cache [] → Stand g x (start_at cs memory) (start_parts g (length cs) memory room tags)
stand_start g x cs memory room tags extents strands made stand cached =
    let s = start_at cs memory in
    record {
      queue_count = length-replicate (length cs) (queue [] g.queue);
      queues = λ n lt. get_or-replicate (length cs) n (queue [] g.queue) no_queue lt ∙ ap (λ items. queue (map (item_of g s) items) g.queue) (sym (drop_none (gone s n)));
      buffer_count = length-replicate (length cs) (empty_buffers g.buffers g.ring);
      buffers = λ n lt. subst (BuffersStand g s n) (sym (get_or-replicate (length cs) n (empty_buffers g.buffers g.ring) no_buffers lt)) (record {
        ring = refl;
        buffers = length-replicate g.buffers [];
        strand = refl;
        lists = λ b within. empty_at g.buffers b;
        number = refl;
        epoch = refl;
      });
      tags = record {
        extents = extents;
        cores = ap length strands ∙ length-replicate (length cs) 0;
        accesses = stand;
        strands = λ n lt. ap (λ xs. slice_index xs n) strands ∙ zero_at (length cs) n;
        made = λ n lt. ap (λ xs. slice_index xs n) made ∙ zero_at (length cs) n;
      };
      control = refl;
      tally_count = length-replicate (length cs) (empty_tally room);
      tallies = λ n lt. subst (TallyStands g s n) (sym (get_or-replicate (length cs) n (empty_tally room) no_tally lt)) (record { numbers = refl; first = refl; strand = sym (next_none g.mode n); waits = λ _. keeps_none g.mode n });
      waits = refl;
      cache = cache_start g cs memory cached;
    }

-- the same of a machine that was just made
module _ (g : Settings) (image : ImageSeen) (steps : ℕ) (m : Machine) (parts : PartsSeen) (is : m ≡ machine_at g image steps) (now : parts ≡ start_parts g (length image.entries) (start_of image).now.memory steps parts.tags) where
  cores_are : length (map fresh image.entries) ≡ length image.entries
  cores_are = length-map image.entries fresh

  now_is : parts ≡ start_parts g (length (map fresh image.entries)) (start_of image).now.memory steps parts.tags
  now_is = now ∙ ap (λ n. start_parts g n (start_of image).now.memory steps parts.tags) (sym cores_are)

  pub stand_new : parts.tags.extents ≡ (program_of image).sizes → parts.tags.strands ≡ replicate (length image.entries) 0 → parts.tags.made ≡ replicate (length image.entries) 0 → StandFor parts.tags [] → CachesStand parts.cache [] → Stands m parts
  stand_new extents strands made noted cached =
      subst (λ m. Stands m parts) (sym is) (subst (Stands (machine_at g image steps)) (sym now_is)
      (stand_start g (program_of image).sizes (map fresh image.entries) (start_of image).now.memory steps parts.tags extents
      (strands ∙ ap (λ n. replicate n 0) (sym cores_are)) (made ∙ ap (λ n. replicate n 0) (sym cores_are)) noted (subst (λ (p : PartsSeen). CachesStand p.cache []) now_is cached)))

  pub wait_room_new : parts.waiting.room ≡ m.steps
  wait_room_new = ap (λ (p : PartsSeen). p.waiting.room) now ∙ sym (ap (λ (m : Machine). m.steps) is)

  pub rooms_new : HasRooms m parts
  rooms_new n lt =
      let there : n < length image.entries = omega (arith, subst (λ (m : Machine). n < length m.state.now.cores) is lt, cores_are) in
      ap (λ (p : PartsSeen). (tally_at p n).room) now ∙ ap (λ (t : Tally). t.room) (get_or-replicate (length image.entries) n (empty_tally steps) no_tally there) ∙ sym (ap (λ (m : Machine). m.steps) is)
