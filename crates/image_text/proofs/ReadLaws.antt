-- Lines that are read one after the other, and their objects, each put to the disk.
use Rattle.std.proofs.Common.{◌≡◌, ℕ, ◌+◌, ◌<◌, ◌≤◌, ◌⊎◌, Bool, IsTrue, List, [], ◌∷◌, ◌++◌, length, take, drop, Some, Result, Ok, Err, refl, sym, ap, ap₂, subst, ◌∙◌, inl, inr, append_assoc, length-append, arith}
use Rattle.std.specs.FinMap as map
use Rattle.std.proofs.lemmas.Bool.{le-leb, lt-leb}
use Rattle.std.proofs.lemmas.List.{append-nil, length-map}
use Rattle.std.proofs.lemmas.List.Elements.{All-nil, All-push}
use Rattle.long_names.specs.declared.object.Rec.{Rec}
use Rattle.loom_host.specs.declared.outside.Host.{Ghosts}
use Rattle.loom_host.specs.declared.outside.Role.TheVariants.{Image, Work}
use Rattle.loom_host.specs.Work.{IsWorkOnly, work_of}
use Rattle.object_record.specs.Raw.{RawRecord, raw_record}
use Rattle.disk_objects.specs.declared.rest.DiskRest.{DiskRest}
use Rattle.disk_objects.specs.Disk.{IsDisk, Objects, disk_held, object_of}
use Rattle.disk_objects.specs.Function.{PutsObject}
use Rattle.image_format.specs.declared.fault.Break.{Break}
use Rattle.image_format.specs.declared.head.TheConstants.{FEWEST_OBJECTS}
use Rattle.image_format.specs.Rules.{Image as WholeImage, break}
use Rattle.image_reader.specs.Frames.{IsLoading, ReadsImage}
use Rattle.image_reader.specs.Inside.{AreListed}
use Rattle.image_reader.specs.Loaded.{IsStored}
use Rattle.image_reader.specs.Window.{Ahead, unused}
use Rattle.image_reader.specs.declared.fault.LoadFault.TheVariants as load
use Rattle.image_reader.proofs.Frames.{fault_later}
use Rattle.image_reader.proofs.Reading.{listed_more, listed_none, named-more}
use Rattle.image_reader.proofs.Stored.{still_stored, stored_more}
use Rattle.image_reader.proofs.Takes.{same_left}
use Rattle.text_lines.specs.Breaks.{◌>>=◌, first_break_of, head_at, image_of, keeping, lines_at, object_at, objects_at, text_break}
use Rattle.text_lines.specs.Grammar.{Head}
use Rattle.text_lines.specs.declared.limits.TheConstants.{LONGEST_LINE}
use Rattle.text_lines.specs.declared.line.Head.{Head as HeadRead}
use Rattle.image_text.specs.declared.fault.TextFault.{TextFault}
use Rattle.image_text.specs.declared.fault.TextFault.TheVariants.{Bad, Read, Disk, Memory}
use Rattle.image_text.specs.declared.lines.Line.{Line}
use Rattle.image_text.specs.declared.lines.Line.TheVariants.{Whole, End, Broken}
use Rattle.image_text.specs.Assembled.{IsPartTextFault}
use Rattle.image_text.specs.Inside.{IsUnread, ReadsText}
use Rattle.image_text.specs.Lines.{Comes, IsBreak, head_read, lines_of}
use Rattle.image_text.specs.Reads.{IsBad, IsHeadRefused, IsReading, IsRefused, ReadsHead, ReadsObjects, TakesEnd, TakesHead, TakesLine, TakesObject, after_head, after_records}
use Rattle.image_text.proofs.LineReads.{first_line}
use Rattle.image_text.proofs.StatedLaws.{head_keeps}

-- ---- faults

-- a fault of a later part
pub text_later : {H : Type 0} (host : Ghosts H) (old mid new : H) (e : TextFault) → IsLoading host old mid → IsPartTextFault host mid new e → IsPartTextFault host old new e
text_later host old mid new (Bad line rule) p f = tt
text_later host old mid new (Read count) p f = fault_later host old mid new (load.Read count) p f
text_later host old mid new (Disk d) p f = fault_later host old mid new (load.Disk d) p f
text_later host old mid new Memory p f = tt

break_bad : {X Y : Type 0} (read : Result X Break) (whole : Result Y Break) (e : TextFault) → ((b : Break) → read ≡ Err b → whole ≡ Err b) → IsBreak read e → IsBad whole e
break_bad read whole (Bad line rule) breaks f = breaks (break rule line) f
break_bad read whole (Read count) breaks f = tt
break_bad read whole (Disk d) breaks f = tt
break_bad read whole Memory breaks f = tt

-- ---- what a line is to the lines from it on

line_breaks : (number last next : ℕ) (line text : List ℕ) (b : Break) → object_at number last next line ≡ Err b → objects_at number last next (line ∷ lines_of text) ≡ Err b
unfolding objects_at
line_breaks number last next line text b e =
    let f = first_line text in
    ap (λ (ls : List (List ℕ)). objects_at number last next (line ∷ ls)) f.2
    ∙ ap (λ (r : Result Rec Break). r >>= λ first. objects_at (number + 1) first.name next (f.0 ∷ f.1) >>= λ others. Ok (first ∷ others)) e

front_one : (r : Rec) (others : Result (List Rec) Break) → (others >>= λ recs. let x : Result (List Rec) Break = Ok (r ∷ recs) in x) ≡ after_records (r ∷ []) others
front_one r (Ok recs) = refl
front_one r (Err b) = refl

line_goes : (number last next : ℕ) (line text : List ℕ) (r : Rec) → object_at number last next line ≡ Ok r → objects_at number last next (line ∷ lines_of text) ≡ after_records (r ∷ []) (objects_at (number + 1) r.name next (lines_of text))
unfolding objects_at
line_goes number last next line text r e =
    let f = first_line text in
    ap (λ (ls : List (List ℕ)). objects_at number last next (line ∷ ls)) f.2
    ∙ ap (λ (x : Result Rec Break). x >>= λ first. objects_at (number + 1) first.name next (f.0 ∷ f.1) >>= λ others. Ok (first ∷ others)) e
    ∙ front_one r (objects_at (number + 1) r.name next (f.0 ∷ f.1))
    ∙ ap (λ (ls : List (List ℕ)). after_records (r ∷ []) (objects_at (number + 1) r.name next ls)) (sym f.2)

pub refused_bad : (number last next : ℕ) (bytes behind text : List ℕ) (line : Line) (e : TextFault) → bytes ++ behind ≡ text → Comes bytes behind line → IsRefused bytes number last next line e → IsBad (objects_at number last next (lines_of text)) e
refused_bad number last next bytes behind text (Whole len) e same comes f =
    break_bad (object_at number last next (take len bytes)) (objects_at number last next (lines_of text)) e
    (λ b is.
    ap (λ (t : List ℕ). objects_at number last next (lines_of t)) (sym same)
    ∙ ap (objects_at number last next) comes
    ∙ line_breaks number last next (take len bytes) (drop (len + 1) bytes ++ behind) b is) f
refused_bad number last next bytes behind text End e same comes f = absurd f
refused_bad number last next bytes behind text Broken e same comes f =
    subst (λ (x : TextFault). IsBad (objects_at number last next (lines_of text)) x) (sym f)
    (ap (λ (t : List ℕ). objects_at number last next (lines_of t)) (sym same) ∙ comes.other number last next)

-- ---- one line

pub takes_line : {H : Type 0} (host : Ghosts H) (old mid new : H) (rest between after : DiskRest) (w f v : Ahead) (buffer : List ℕ) (number last next name : ℕ) (line : Line) (raw : RawRecord)
    → ReadsImage host old mid → between ≡ rest
    → (IsTrue (host.tells Image) → unused f (host.roles mid Image) ≡ unused w (host.roles old Image)) → f.place ≡ w.place
    → (IsTrue (host.tells Image) → Comes f.bytes (host.roles mid Image).left line)
    → (t : TakesObject f v buffer number last next line name) → raw ≡ raw_record t.object.rec
    → IsWorkOnly host mid new
    → (IsTrue (host.tells Work) → PutsObject host mid new between after raw 0)
    → (IsTrue (host.tells Work) → (objects : Objects) (pending : List ℕ) → IsDisk between (work_of host mid) objects pending → IsDisk after (work_of host new) (map.insert objects raw.name (object_of raw 0)) pending)
    → (disk_held after ≡ disk_held between) ⊎ (disk_held after ≡ disk_held between + 1)
    → TakesLine host old new rest after w v number last next name
takes_line host old mid new rest between after w f v buffer number last next name line raw reads same unread place comes t raw_is work puts disk held =
    let o = t.object in
    let r = o.rec in
    record {
      rec = r;
      is = o.is;
      named = o.named;
      above = o.above;
      below = o.below;
      uncounted = o.uncounted;
      few = o.few;
      read = λ told.
          let here : Comes f.bytes (host.roles mid Image).left (Whole t.len) = subst (Comes f.bytes (host.roles mid Image).left) t.is (comes told) in
          ap (λ (s : List ℕ). objects_at number last next (lines_of s)) (sym (unread told))
          ∙ ap (objects_at number last next) here
          ∙ line_goes number last next (take t.len f.bytes) (drop (t.len + 1) f.bytes ++ (host.roles mid Image).left) r o.read
          ∙ ap₂ (λ (s l : List ℕ). after_records (r ∷ []) (objects_at (number + 1) r.name next (lines_of (s ++ l)))) (sym t.left) (sym (same_left host mid new work));
      near = omega (arith, t.place, t.short, place);
      stored = λ told recs none s.
          let u = still_stored host old mid rest between recs (reads.others Work (λ e. cc)) same s in
          let puts_count : PutsObject host mid new between after raw r.count = subst (λ (n : ℕ). PutsObject host mid new between after raw n) (sym o.uncounted) (puts told) in
          let disk_count : IsDisk after (work_of host new) (map.insert u.objects raw.name (object_of raw r.count)) [] = subst (λ (n : ℕ). IsDisk after (work_of host new) (map.insert u.objects raw.name (object_of raw n)) []) (sym o.uncounted) (disk told u.objects [] u.is) in
          stored_more host mid new between after recs r raw u o.is raw_is none puts_count disk_count;
      held =
          let h : disk_held between ≡ disk_held rest = ap (λ (d : DiskRest). disk_held d) same in
          elim held [
            | inl e ↦ omega (arith, e, h)
            | inr e ↦ omega (arith, e, h)
          ];
    }

-- ---- the loop

after_none : (x : Result (List Rec) Break) → x ≡ after_records [] x
after_none (Ok recs) = refl
after_none (Err b) = refl

after_more : (recs : List Rec) (r : Rec) (x : Result (List Rec) Break) → after_records recs (after_records (r ∷ []) x) ≡ after_records (recs ++ r ∷ []) x
after_more recs r (Ok others) = ap (λ (l : List Rec). let y : Result (List Rec) Break = Ok l in y) (sym (append_assoc recs (r ∷ []) others))
after_more recs r (Err b) = refl

pub begins : {H : Type 0} (host : Ghosts H) (now : H) (rest : DiskRest) (w : Ahead) (next : ℕ) → w.place ≤ LONGEST_LINE + 1 → disk_held rest ≡ 0 → (IsTrue (host.tells Work) → IsStored host now rest []) → IsReading host now now rest w w 2 0 next []
begins host now rest w next place none empty = record {
  recs = [];
  names_are = refl;
  many = refl;
  few = omega arith;
  listed = listed_none next;
  uncounted = All-nil (λ (r : Rec). r.count ≡ 0);
  read = λ told. after_none (objects_at 2 0 next (lines_of (unused w (host.roles now Image))));
  near = omega (arith, place);
  held = omega (arith, none);
  stored = empty;
}

pub goes_on : {H : Type 0} (host : Ghosts H) (old mid new : H) (rest after : DiskRest) (w v u : Ahead) (number last next name : ℕ) (names : List ℕ)
    → IsReading host old mid rest w v number last next names → TakesLine host mid new rest after v u number last next name → IsReading host old new after w u (number + 1) name next (names ++ name ∷ [])
goes_on host old mid new rest after w v u number last next name names so_far one =
    let r = one.rec in
    let recs = so_far.recs in
    let len : length (names ++ name ∷ []) ≡ length names + 1 = length-append names (name ∷ []) in
    record {
      recs = recs ++ r ∷ [];
      names_are = ap₂ (λ (l : List ℕ) (n : ℕ). l ++ n ∷ []) so_far.names_are one.named ∙ sym (named-more recs r);
      many = omega (arith, so_far.many, len);
      few = omega (arith, so_far.many, one.few, len);
      listed = subst (λ (n : ℕ). AreListed (recs ++ r ∷ []) n next) (sym one.named) (listed_more recs last next r so_far.listed one.is one.above one.below);
      uncounted = All-push (λ (x : Rec). x.count ≡ 0) recs r so_far.uncounted one.uncounted;
      read = λ told.
          so_far.read told
          ∙ ap (after_records recs) (one.read told)
          ∙ after_more recs r (objects_at (number + 1) r.name next (lines_of (unused u (host.roles new Image))))
          ∙ ap (λ (n : ℕ). after_records (recs ++ r ∷ []) (objects_at (number + 1) n next (lines_of (unused u (host.roles new Image))))) (sym one.named);
      near = omega (arith, one.near, so_far.near, len);
      held = omega (arith, one.held, so_far.held, len);
      stored = λ told. one.stored told recs (so_far.listed.none r.name one.above) (so_far.stored told);
    }

-- a line that breaks a rule
pub stops : {H : Type 0} (host : Ghosts H) (old mid : H) (rest : DiskRest) (w v : Ahead) (number last next : ℕ) (names : List ℕ) (e : TextFault) → IsTrue (host.tells Image)
    → IsReading host old mid rest w v number last next names
    → IsBad (objects_at number last next (lines_of (unused v (host.roles mid Image)))) e
    → IsBad (objects_at 2 0 next (lines_of (unused w (host.roles old Image)))) e
stops host old mid rest w v number last next names (Bad line rule) told so_far f = so_far.read told ∙ ap (after_records so_far.recs) f
stops host old mid rest w v number last next names (Read count) told so_far f = tt
stops host old mid rest w v number last next names (Disk d) told so_far f = tt
stops host old mid rest w v number last next names Memory told so_far f = tt

no_objects : (number last next : ℕ) → objects_at number last next (lines_of []) ≡ Ok []
unfolding objects_at
no_objects number last next = refl

pub is_done : {H : Type 0} (host : Ghosts H) (old mid new : H) (rest after : DiskRest) (w v : Ahead) (number last next : ℕ) (names : List ℕ) → IsReading host old mid rest w v number last next names → TakesEnd host mid new rest after v
    → ReadsObjects host old new after w next names
is_done host old mid new rest after w v number last next names so_far at_end = record {
  recs = so_far.recs;
  last = last;
  names_are = so_far.names_are;
  few = so_far.few;
  listed = so_far.listed;
  uncounted = so_far.uncounted;
  read = λ told.
      so_far.read told
      ∙ ap (λ (t : List ℕ). after_records so_far.recs (objects_at number last next (lines_of t))) (at_end.read told)
      ∙ ap (after_records so_far.recs) (no_objects number last next)
      ∙ ap (λ (l : List Rec). let y : Result (List Rec) Break = Ok l in y) (append-nil so_far.recs);
  end = at_end.end;
  held = let h = so_far.held in let same : disk_held after ≡ disk_held rest = ap (λ (d : DiskRest). disk_held d) at_end.rest_is in omega (arith, h, same);
  stored = λ told. still_stored host mid new rest after so_far.recs at_end.work at_end.rest_is (so_far.stored told);
}

-- ---- the first line

head_breaks : (line text : List ℕ) (b : Break) → head_at line ≡ Err b → lines_at (line ∷ lines_of text) ≡ Err b
unfolding lines_at
head_breaks line text b e =
    let f = first_line text in
    ap (λ (ls : List (List ℕ)). lines_at (line ∷ ls)) f.2
    ∙ ap (λ (r : Result Head Break). r >>= λ head. after_head head (objects_at 2 0 head.next (f.0 ∷ f.1))) e

head_goes : (line text : List ℕ) (h : Head) → head_at line ≡ Ok h → lines_at (line ∷ lines_of text) ≡ after_head h (objects_at 2 0 h.next (lines_of text))
unfolding lines_at
head_goes line text h e =
    let f = first_line text in
    ap (λ (ls : List (List ℕ)). lines_at (line ∷ ls)) f.2
    ∙ ap (λ (r : Result Head Break). r >>= λ head. after_head head (objects_at 2 0 head.next (f.0 ∷ f.1))) e
    ∙ ap (λ (ls : List (List ℕ)). after_head h (objects_at 2 0 h.next ls)) (sym f.2)

no_lines : lines_at (lines_of []) ≡ Err (break 0 1)
unfolding lines_at
no_lines = refl

pub head_bad : (bytes behind text : List ℕ) (line : Line) (e : TextFault) → bytes ++ behind ≡ text → Comes bytes behind line → IsHeadRefused bytes line e → IsBad (lines_at (lines_of text)) e
head_bad bytes behind text (Whole len) e same comes f =
    break_bad (head_at (take len bytes)) (lines_at (lines_of text)) e
    (λ b is.
    ap (λ (t : List ℕ). lines_at (lines_of t)) (sym same)
    ∙ ap lines_at comes
    ∙ head_breaks (take len bytes) (drop (len + 1) bytes ++ behind) b is) f
head_bad bytes behind text End e same comes f =
    subst (λ (x : TextFault). IsBad (lines_at (lines_of text)) x) (sym f)
    (ap (λ (t : List ℕ). lines_at (lines_of t)) (sym same ∙ ap₂ (λ (s l : List ℕ). s ++ l) comes.0 comes.1) ∙ no_lines)
head_bad bytes behind text Broken e same comes f =
    subst (λ (x : TextFault). IsBad (lines_at (lines_of text)) x) (sym f)
    (ap (λ (t : List ℕ). lines_at (lines_of t)) (sym same) ∙ comes.first)

pub reads_head : {H : Type 0} (host : Ghosts H) (old mid : H) (w f v : Ahead) (line : Line) (head : HeadRead)
    → (IsTrue (host.tells Image) → unused f (host.roles mid Image) ≡ unused w (host.roles old Image)) → f.place ≡ w.place
    → (IsTrue (host.tells Image) → Comes f.bytes (host.roles mid Image).left line)
    → TakesHead f v line head → ReadsHead host old mid w v head
reads_head host old mid w f v line head unread place comes t =
    let kept = head_keeps (take t.len f.bytes) (head_read head) t.read in
    record {
      next = kept.0;
      state = kept.1;
      read = λ told.
          let here : Comes f.bytes (host.roles mid Image).left (Whole t.len) = subst (Comes f.bytes (host.roles mid Image).left) t.is (comes told) in
          ap (λ (s : List ℕ). lines_at (lines_of s)) (sym (unread told))
          ∙ ap lines_at here
          ∙ head_goes (take t.len f.bytes) (drop (t.len + 1) f.bytes ++ (host.roles mid Image).left) (head_read head) t.read
          ∙ ap (λ (s : List ℕ). after_head (head_read head) (objects_at 2 0 head.next (lines_of (s ++ (host.roles mid Image).left)))) (sym t.left);
      near = omega (arith, t.place, t.short, place);
    }

-- ---- the text

-- a break of the lines is one of the text
unread_by : (text : List ℕ) (b : Break) → lines_at (lines_of text) ≡ Err b → text_break text ≡ Some b
unfolding text_break
unread_by text b e = ap first_break_of e

bad_unread : {H : Type 0} (host : Ghosts H) (old : H) (e : TextFault) → (IsTrue (host.tells Image) → IsBad (lines_at (lines_of (host.roles old Image).left)) e) → IsUnread host old e
bad_unread host old (Bad line rule) f = λ told. unread_by (host.roles old Image).left (break rule line) (f told)
bad_unread host old (Read count) f = tt
bad_unread host old (Disk d) f = tt
bad_unread host old Memory f = tt

-- a line behind the first
later_bad : (head : Head) (objects : Result (List Rec) Break) (whole : Result WholeImage Break) (e : TextFault) → whole ≡ after_head head objects → IsBad objects e → IsBad whole e
later_bad head objects whole (Bad line rule) is f = is ∙ ap (after_head head) f
later_bad head objects whole (Read count) is f = tt
later_bad head objects whole (Disk d) is f = tt
later_bad head objects whole Memory is f = tt

too_few : (head : Head) (recs : List Rec) (objects : Result (List Rec) Break) (whole : Result WholeImage Break) → whole ≡ after_head head objects → objects ≡ Ok recs → length recs < FEWEST_OBJECTS → whole ≡ Err (break 3 1)
too_few head recs objects whole is read low =
    is ∙ ap (after_head head) read
    ∙ ap (λ (b : Bool). keeping 3 1 b >>= λ enough. let x : Result WholeImage Break = Ok (image_of head recs) in x) (lt-leb FEWEST_OBJECTS (length recs) low)

is_whole : (head : Head) (recs : List Rec) (objects : Result (List Rec) Break) (whole : Result WholeImage Break) → whole ≡ after_head head objects → objects ≡ Ok recs → FEWEST_OBJECTS ≤ length recs → whole ≡ Ok (image_of head recs)
is_whole head recs objects whole is read enough =
    is ∙ ap (after_head head) read
    ∙ ap (λ (b : Bool). keeping 3 1 b >>= λ e. let x : Result WholeImage Break = Ok (image_of head recs) in x) (le-leb FEWEST_OBJECTS (length recs) enough)

pub head_unread : {H : Type 0} (host : Ghosts H) (old : H) (w : Ahead) (e : TextFault) → unused w (host.roles old Image) ≡ (host.roles old Image).left → (IsTrue (host.tells Image) → IsBad (lines_at (lines_of (unused w (host.roles old Image)))) e) → IsUnread host old e
head_unread host old w e begun bad = bad_unread host old e (λ told. subst (λ (t : List ℕ). IsBad (lines_at (lines_of t)) e) begun (bad told))

-- the window of a text, at its start
module _ {H : Type 0} (host : Ghosts H) (old mid : H) (w v : Ahead) (head : HeadRead) (begun : unused w (host.roles old Image) ≡ (host.roles old Image).left) where
  text_goes : ReadsHead host old mid w v head → IsTrue (host.tells Image) → lines_at (lines_of (host.roles old Image).left) ≡ after_head (head_read head) (objects_at 2 0 head.next (lines_of (unused v (host.roles mid Image))))
  text_goes h told = ap (λ (t : List ℕ). lines_at (lines_of t)) (sym begun) ∙ h.read told

  pub objects_unread : (e : TextFault) → ReadsHead host old mid w v head → (IsTrue (host.tells Image) → IsBad (objects_at 2 0 head.next (lines_of (unused v (host.roles mid Image)))) e) → IsUnread host old e
  objects_unread e h bad = bad_unread host old e (λ told.
      later_bad (head_read head) (objects_at 2 0 head.next (lines_of (unused v (host.roles mid Image)))) (lines_at (lines_of (host.roles old Image).left)) e (text_goes h told) (bad told))

  as_many : (new : H) (rest : DiskRest) (names : List ℕ) (o : ReadsObjects host mid new rest v head.next names) → length names ≡ length o.recs
  as_many new rest names o = ap length o.names_are ∙ length-map o.recs (λ (r : Rec). r.name)

  pub few_unread : (new : H) (rest : DiskRest) (names : List ℕ) → ReadsHead host old mid w v head → ReadsObjects host mid new rest v head.next names → length names < FEWEST_OBJECTS → IsUnread host old (Bad 1 3)
  few_unread new rest names h o low = λ told.
      let len = as_many new rest names o in
      unread_by (host.roles old Image).left (break 3 1)
      (too_few (head_read head) o.recs (objects_at 2 0 head.next (lines_of (unused v (host.roles mid Image)))) (lines_at (lines_of (host.roles old Image).left)) (text_goes h told) (o.read told) (omega (arith, len, low)))

  pub reads_text : (new : H) (rest : DiskRest) (names : List ℕ) → ReadsHead host old mid w v head → ReadsObjects host mid new rest v head.next names → FEWEST_OBJECTS ≤ length names → ReadsText host old new rest (head_read head) names
  reads_text new rest names h o enough =
      let len = as_many new rest names o in
      record {
        recs = o.recs;
        are = record { last = o.last; names_are = o.names_are; listed = o.listed; stored = o.stored };
        uncounted = o.uncounted;
        few = o.few;
        enough = enough;
        next = h.next;
        state = h.state;
        read = λ told. is_whole (head_read head) o.recs (objects_at 2 0 head.next (lines_of (unused v (host.roles mid Image)))) (lines_at (lines_of (host.roles old Image).left)) (text_goes h told) (o.read told) (omega (arith, len, enough));
        end = o.end;
        held = o.held;
      }
