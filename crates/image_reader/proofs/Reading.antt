-- Records that are read one after the other, each put to the disk.
use Rattle.std.proofs.Common.{◌≡◌, ℕ, suc, ◌+◌, ◌-◌, ◌<◌, ◌≤◌, List, [], ◌∷◌, ◌++◌, Option, Some, None, Result, Ok, Err, IsTrue, refl, sym, ap, ap₂, subst, ◌∙◌, append_assoc, length-append, arith}
use Rattle.std.specs.Prelude.{All}
use Rattle.std.proofs.lemmas.List.{append-nil, map-append}
use Rattle.std.proofs.lemmas.List.Elements.{All-nil, All-push, All-weaker}
use Rattle.std.proofs.lemmas.List.Quantifiers.{all_pairs_push}
use Rattle.long_names.specs.Objects.{IsRecord}
use Rattle.long_names.specs.declared.object.Rec.{Rec}
use Rattle.loom_host.specs.declared.outside.Host.{Ghosts}
use Rattle.loom_host.specs.declared.outside.Role.TheVariants.{Image, Work}
use Rattle.disk_objects.specs.declared.rest.DiskRest.{DiskRest}
use Rattle.disk_objects.specs.Disk.{disk_held}
use Rattle.image_format.specs.declared.fault.Halt.{Halt}
use Rattle.image_format.specs.Reading.{◌>>=◌}
use Rattle.image_format.specs.Rules.{next_record_at, records_at, rec_in}
use Rattle.image_reader.specs.declared.fault.LoadFault.{LoadFault}
use Rattle.image_reader.specs.declared.fault.LoadFault.TheVariants.{Bad, Read, Disk, Memory}
use Rattle.image_reader.specs.Frames.{IsHalted}
use Rattle.image_reader.specs.Inside.{AreListed, IsReading, TakesRecord, TakesRecords, with_front}
use Rattle.image_reader.specs.Loaded.{IsStored, names_of, stated_by}
use Rattle.image_reader.specs.Names.{IsRising}
use Rattle.image_reader.specs.Window.{Ahead, unused, file_end}
use Rattle.image_reader.proofs.Stored.{rec_apart, rec_here}

-- ---- reading

front_none : (x : Result (List Rec × List ℕ) Halt) → x ≡ with_front [] x
front_none (Ok x) = refl
front_none (Err h) = refl

front_more : (recs : List Rec) (r : Rec) (x : Result (List Rec × List ℕ) Halt)
    → with_front recs (x >>= λ (others : List Rec × List ℕ). Ok (r ∷ others.0, others.1)) ≡ with_front (recs ++ r ∷ []) x
front_more recs r (Ok x) = ap (λ (l : List Rec). let y : Result (List Rec × List ℕ) Halt = Ok (l, x.1) in y) (sym (append_assoc recs (r ∷ []) x.0))
front_more recs r (Err h) = refl

records_more : (k last next : ℕ) (bytes : List ℕ) (r : Rec) (rest : List ℕ) (recs : List Rec) → next_record_at last next bytes ≡ Ok (r, rest)
    → with_front recs (records_at (suc k) last next bytes) ≡ with_front (recs ++ r ∷ []) (records_at k r.name next rest)
unfolding records_at
records_more k last next bytes r rest recs e = rw e (front_more recs r (records_at k r.name next rest))

records_stop : (k last next : ℕ) (bytes : List ℕ) (h : Halt) (recs : List Rec) → next_record_at last next bytes ≡ Err h → with_front recs (records_at (suc k) last next bytes) ≡ Err h
unfolding records_at
records_stop k last next bytes h recs e = rw e refl

records_end : (last next : ℕ) (bytes : List ℕ) (recs : List Rec) → with_front recs (records_at 0 last next bytes) ≡ Ok (recs, bytes)
unfolding records_at
records_end last next bytes recs = ap (λ (l : List Rec). let y : Result (List Rec × List ℕ) Halt = Ok (l, bytes) in y) (append-nil recs)

-- ---- the list

pub named-more : (recs : List Rec) (r : Rec) → names_of (recs ++ r ∷ []) ≡ names_of recs ++ r.name ∷ []
named-more recs r = map-append (λ (x : Rec). x.name) recs (r ∷ [])

stated-more : (recs : List Rec) (r : Rec) → stated_by (recs ++ r ∷ []) ≡ stated_by recs ++ r.count ∷ []
stated-more recs r = map-append (λ (x : Rec). x.count) recs (r ∷ [])

pub listed_none : (next : ℕ) → AreListed [] 0 next
listed_none next = record {
  records = All-nil IsRecord;
  below = All-nil (λ (r : Rec). r.name < next);
  rising = λ i j d lt within. absurd (let no : ⊥ = omega (arith, within) in no);
  highest = All-nil (λ (n : ℕ). n ≤ 0);
  none = λ q above. refl;
  own = All-nil (λ (r : Rec). rec_in [] r.name ≡ Some r);
}

pub listed_more : (recs : List Rec) (last next : ℕ) (r : Rec) → AreListed recs last next → IsRecord r → last < r.name → r.name < next → AreListed (recs ++ r ∷ []) r.name next
listed_more recs last next r l is above below =
    let none = l.none r.name above in
    record {
      records = All-push IsRecord recs r l.records is;
      below = All-push (λ (x : Rec). x.name < next) recs r l.below below;
      rising = subst IsRising (sym (named-more recs r)) (all_pairs_push (λ (x y : ℕ). x < y) (names_of recs) r.name l.rising (λ k d low. omega (arith, l.highest k d low, above)));
      highest = subst (λ (ns : List ℕ). All (λ (n : ℕ). n ≤ r.name) ns) (sym (named-more recs r))
          (All-push (λ (n : ℕ). n ≤ r.name) (names_of recs) r.name (All-weaker (λ (n : ℕ). n ≤ last) (λ (n : ℕ). n ≤ r.name) (λ n le. omega (arith, le, above)) (names_of recs) l.highest) (omega arith));
      none = λ q over. rec_apart recs r q (λ e. omega (arith, over, e)) ∙ l.none q (omega (arith, above, over));
      own = All-push (λ (x : Rec). rec_in (recs ++ r ∷ []) x.name ≡ Some x) recs r
          (All-weaker (λ (x : Rec). rec_in recs x.name ≡ Some x) (λ (x : Rec). rec_in (recs ++ r ∷ []) x.name ≡ Some x) (λ x own. stays x own) recs l.own)
          (rec_here recs r none);
    }
  where
    stays : (x : Rec) → rec_in recs x.name ≡ Some x → rec_in (recs ++ r ∷ []) x.name ≡ Some x
    stays x own = rec_apart recs r x.name (λ (e : x.name ≡ r.name).
        let clash : ◌≡◌ {A = Option Rec} None (Some x) = sym (l.none r.name above) ∙ ap (rec_in recs) (sym e) ∙ own in let no : ⊥ = cc in no) ∙ own

-- ---- the loop

pub begins : {H : Type 0} (host : Ghosts H) (now : H) (rest : DiskRest) (w : Ahead) (count next : ℕ) → w.place ≤ 36 → disk_held rest ≡ 0 → (IsTrue (host.tells Work) → IsStored host now rest []) → IsReading host now now rest w w count 0 0 next [] []
begins host now rest w count next place none empty = record {
  recs = [];
  names_are = refl;
  stated_are = refl;
  many = refl;
  listed = listed_none next;
  read = λ told.
      front_none (records_at count 0 next (unused w (host.roles now Image)))
      ∙ ap (λ (k : ℕ). with_front [] (records_at k 0 next (unused w (host.roles now Image)))) (let all : count ≡ count - 0 = omega arith in all);
  end = λ told. refl;
  bytes = λ told behind. behind;
  near = omega (arith, place);
  held = omega (arith, none);
  stored = empty;
}

pub goes_on : {H : Type 0} (host : Ghosts H) (old mid new : H) (rest after : DiskRest) (w v u : Ahead) (count i last next name number : ℕ) (names stated : List ℕ) → i < count
    → IsReading host old mid rest w v count i last next names stated → TakesRecord host mid new rest after v u last next name number
    → IsReading host old new after w u count (i + 1) name next (names ++ name ∷ []) (stated ++ number ∷ [])
goes_on host old mid new rest after w v u count i last next name number names stated turn so_far one =
    let r = one.rec in
    let recs = so_far.recs in
    let left : count - i ≡ suc (count - (i + 1)) = omega (arith, turn) in
    record {
      recs = recs ++ r ∷ [];
      names_are =
          ap₂ (λ (l : List ℕ) (n : ℕ). l ++ n ∷ []) so_far.names_are one.named
          ∙ sym (named-more recs r);
      stated_are =
          ap₂ (λ (l : List ℕ) (n : ℕ). l ++ n ∷ []) so_far.stated_are one.stated
          ∙ sym (stated-more recs r);
      many = omega (arith, so_far.many, length-append names (name ∷ []));
      listed = subst (λ (n : ℕ). AreListed (recs ++ r ∷ []) n next) (sym one.named) (listed_more recs last next r so_far.listed one.is one.above one.below);
      read = λ told.
          so_far.read told
          ∙ ap (λ (k : ℕ). with_front recs (records_at k last next (unused v (host.roles mid Image)))) left
          ∙ records_more (count - (i + 1)) last next (unused v (host.roles mid Image)) r (unused u (host.roles new Image)) recs (one.read told)
          ∙ ap (λ (n : ℕ). with_front (recs ++ r ∷ []) (records_at (count - (i + 1)) n next (unused u (host.roles new Image)))) (sym one.named);
      end = λ told. one.end told ∙ so_far.end told;
      bytes = λ told behind. so_far.bytes told (one.bytes told behind);
      near = omega (arith, one.near, so_far.near);
      held = omega (arith, one.held, so_far.held);
      stored = λ told. one.stored told recs (so_far.listed.none r.name one.above) (so_far.stored told);
    }

-- a record that breaks a rule
pub stops : {H : Type 0} (host : Ghosts H) (old mid : H) (rest : DiskRest) (w v : Ahead) (count i last next : ℕ) (names stated : List ℕ) (f : LoadFault) → i < count → IsTrue (host.tells Image)
    → IsReading host old mid rest w v count i last next names stated
    → IsHalted (file_end v (host.roles mid Image).left) (next_record_at last next (unused v (host.roles mid Image))) f
    → IsHalted (file_end w (host.roles old Image).left) (records_at count 0 next (unused w (host.roles old Image))) f
stops host old mid rest w v count i last next names stated (Bad rule place) turn told so_far h =
    let left : count - i ≡ suc (count - (i + 1)) = omega (arith, turn) in (
      h.0,
      so_far.read told
          ∙ ap (λ (k : ℕ). with_front so_far.recs (records_at k last next (unused v (host.roles mid Image)))) left
          ∙ records_stop (count - (i + 1)) last next (unused v (host.roles mid Image)) h.0 so_far.recs h.1,
      h.2,
      h.3 ∙ so_far.end told,
    )
stops host old mid rest w v count i last next names stated (Read c) turn told so_far h = tt
stops host old mid rest w v count i last next names stated (Disk d) turn told so_far h = tt
stops host old mid rest w v count i last next names stated Memory turn told so_far h = tt

pub is_done : {H : Type 0} (host : Ghosts H) (old new : H) (rest : DiskRest) (w v : Ahead) (count i last next : ℕ) (names stated : List ℕ) → count ≤ i → i ≤ count → IsReading host old new rest w v count i last next names stated
    → TakesRecords host old new rest w v count next names stated
is_done host old new rest w v count i last next names stated le most so_far =
    let none : count - i ≡ 0 = omega (arith, le) in
    record {
      recs = so_far.recs;
      last = last;
      names_are = so_far.names_are;
      stated_are = so_far.stated_are;
      many = omega (arith, so_far.many, le, most);
      listed = so_far.listed;
      read = λ told.
          so_far.read told
          ∙ ap (λ (k : ℕ). with_front so_far.recs (records_at k last next (unused v (host.roles new Image)))) none
          ∙ records_end last next (unused v (host.roles new Image)) so_far.recs;
      end = so_far.end;
      bytes = so_far.bytes;
      stored = so_far.stored;
    }
