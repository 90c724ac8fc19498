-- The world that a list of calls makes, the newest first.
use Rattle.std.specs.Prelude.{◌≡◌, ◌≢◌, ℕ, ◌+◌, ◌==◌, ◌||◌, ◌++◌, Bool, true, false, List, [], ◌∷◌, Option, None, Some, nat_lt, length, replicate, if◌then◌else◌}
use Rattle.std.proofs.Common.{ap, arith, length-append}
use Rattle.std.specs.Option.{option_map}
use Rattle.std.specs.Str.{bytes_eq}
use Rattle.file_system.specs.Calls.{appended, closed, emptied, empty_file, opening, put_to, synced, unsynced, written_at}
use Rattle.file_system.specs.World.{Entry, FileState, Moments, Opening, Run, Span, Whole, World, part_ending}
use Rattle.file_system.specs.declared.system.Kind.TheVariants.{Regular}
use Rattle.file_system.specs.declared.system.Way.{Way}
use Rattle.file_system.specs.declared.system.Way.TheVariants.{Append, Stream}
use Rattle.memory_files.specs.declared.calls.Call.{Call}
use Rattle.memory_files.specs.declared.calls.Call.TheVariants.{Opened, Made, Added, On, Synced, Renamed, Removed, Lost}
use Rattle.memory_files.specs.declared.calls.Calls.{Calls}
use Rattle.memory_files.specs.declared.calls.Calls.TheVariants.{Start, Then'}
use Rattle.memory_files.specs.declared.calls.Change.{Change}
use Rattle.memory_files.specs.declared.calls.Change.TheVariants.{Closed, Placed, Put, Written, Cut, Unsynced}
use Rattle.memory_files.specs.declared.calls.FileNow.{FileNow}
use Rattle.memory_files.specs.declared.calls.View.{View}

-- every path is a name in the one folder, which is file 0
abbrev pub entry_of : List ℕ → Entry
entry_of path = record { folder = 0; name = path }

abbrev pub is_at : List ℕ → Entry → Bool
is_at path e = if e.folder == 0 then bytes_eq path e.name else false

-- a path with an ending more is another name
pub apart_everywhere : (path : List ℕ) → entry_of (path ++ part_ending) ≢ entry_of path
apart_everywhere path same = omega (arith, ap (λ (e : Entry). length e.name) same, length-append path part_ending)

-- another value at one number, and at one name
unfoldable pub with_at : {X : Type 0} → ℕ → X → (ℕ → X) → ℕ → X
with_at n x f k = if k == n then x else f k

unfoldable pub with_name : {X : Type 0} → List ℕ → X → (Entry → X) → Entry → X
with_name path x f e = if is_at path e then x else f e

-- ---- the start: standard output and error are open, and no name leads anywhere

abbrev pub plain_file : List ℕ → FileState
plain_file bytes = record { kind = Regular; bytes = bytes; unsure = []; spoiled = false }

abbrev pub at_start : World
at_start = record {
  files = λ i. plain_file [];
  names = λ e. None;
  earlier = λ e. [];
  opened = with_at 1 (Some (opening 1 (Some Stream) [])) (with_at 2 (Some (opening 2 (Some Stream) [])) (λ d. None));
}

-- ---- one call. n is its number

abbrev pub opens_to : ℕ → ℕ → Option Way → World → World
opens_to n file way w = record w { opened = with_at n (Some (opening file way [])) w.opened }

-- a file that isn't there is nothing's
abbrev pub opens : ℕ → ℕ → Option Way → World → World
opens n file way w = if nat_lt file n then opens_to n file way w else w

abbrev pub makes : ℕ → List ℕ → Way → World → World
makes n path way w = record {
  files = with_at n empty_file w.files;
  names = with_name path (Some n) w.names;
  earlier = with_name path (w.names (entry_of path) ∷ w.earlier (entry_of path)) w.earlier;
  opened = with_at n (Some (opening n (Some way) [])) w.opened;
}

-- a file that is on the disk
abbrev pub adds : ℕ → List ℕ → List ℕ → World → World
adds n path bytes w = record w { files = with_at n (plain_file bytes) w.files; names = with_name path (Some n) w.names; earlier = with_name path [] w.earlier }

abbrev pub is_append : Option Way → Bool
is_append (Some Append) = true
is_append _ = false

-- what a change through a descriptor of this way does to its file, and to the opening
abbrev pub changed_by : Change → Option Way → FileState → FileState
changed_by Closed way f = f
changed_by (Placed place) way f = f
changed_by (Put bytes) way f = if is_append way then appended bytes.items f else f
changed_by (Written place bytes) way f = written_at place bytes.items f
changed_by Cut way f = emptied f
changed_by Unsynced way f = unsynced f

abbrev pub opened_by : Change → Opening → Opening
opened_by Closed o = closed o
opened_by (Placed place) o = record o { place = place }
opened_by (Put bytes) o = put_to bytes.items o
opened_by (Written place bytes) o = o
opened_by Cut o = o
opened_by Unsynced o = o

abbrev pub changes : ℕ → Change → Opening → World → World
changes d change o w = record w { opened = with_at d (Some (opened_by change o)) w.opened; files = with_at o.file (changed_by change o.way (w.files o.file)) w.files }

abbrev pub settles : ℕ → World → World
settles folder w = record w { earlier = λ e. if folder == e.folder then [] else w.earlier e }

abbrev pub syncs : Option Way → Opening → World → World
syncs None o w = settles o.file w
syncs (Some way) o w = record w { files = with_at o.file (synced (w.files o.file)) w.files }

-- what is open under a descriptor is changed so, and else nothing is
abbrev pub where_open : (Opening → World → World) → Option Opening → World → World
where_open change None w = w
where_open change (Some o) w = change o w

abbrev pub renames : List ℕ → List ℕ → World → World
renames from to w = record w {
  names = with_name to (w.names (entry_of from)) (with_name from None w.names);
  earlier = with_name to (w.names (entry_of to) ∷ w.earlier (entry_of to)) (with_name from (w.names (entry_of from) ∷ w.earlier (entry_of from)) w.earlier);
}

abbrev pub removes : List ℕ → World → World
removes path w = record w { names = with_name path None w.names; earlier = with_name path (w.names (entry_of path) ∷ w.earlier (entry_of path)) w.earlier }

-- the first of these, which is the last in the list
abbrev pub first_of : Option ℕ → List (Option ℕ) → Option ℕ
first_of x [] = x
first_of x (y ∷ ys) = first_of y ys

-- where a name leads, or where it led when its folder was synced
abbrev pub leads_to : Bool → Entry → World → Option ℕ
leads_to false e w = w.names e
leads_to true e w = first_of (w.names e) (w.earlier e)

abbrev pub is_whole : Span → Bool
is_whole (Run place len) = false
is_whole Whole = true

abbrev pub has_whole : List Span → Bool
has_whole [] = false
has_whole (span ∷ spans) = is_whole span || has_whole spans

abbrev pub filled : Option ℕ → List ℕ → List ℕ
filled None bytes = bytes
filled (Some b) bytes = replicate (length bytes) b

-- what is left of a file: one of which all may be lost is filled with this byte
abbrev pub file_left : Option ℕ → FileState → FileState
file_left fill f = record { kind = f.kind; bytes = if has_whole f.unsure then filled fill f.bytes else f.bytes; unsure = []; spoiled = false }

-- The power goes and comes again. Names lead where they led when the folder was synced, or where they lead.
abbrev pub loses : Bool → Option ℕ → World → World
loses back fill w = record { files = λ i. file_left fill (w.files i); names = λ e. leads_to back e w; earlier = λ e. []; opened = λ d. option_map closed (w.opened d) }

abbrev pub step : ℕ → Call → World → World
step n (Opened way file) w = opens n file way w
step n (Made path way) w = makes n path.items way w
step n (Added path bytes) w = adds n path.items bytes.items w
step n (On d change) w = where_open (changes d change) (w.opened d) w
step n (Synced d) w = where_open (λ o. syncs o.way o) (w.opened d) w
step n (Renamed from to) w = renames from.items to.items w
step n (Removed path) w = removes path.items w
step n (Lost back fill) w = loses back fill w

-- ---- all calls

abbrev pub next_of : Calls → ℕ
next_of Start = 3
next_of (Then' call p rest) = next_of rest + 1

-- one more call than these
abbrev pub IsThen : Call → Calls → Calls → Type 0
IsThen call old Start = ⊥
IsThen call old (Then' newest p rest) = (newest ≡ call) × (rest ≡ old)

abbrev pub world_of : Calls → World
world_of Start = at_start
world_of (Then' call p rest) = step (next_of rest) call (world_of rest)

abbrev pub past_of : Calls → List World
past_of Start = []
past_of (Then' call p rest) = world_of rest ∷ past_of rest

abbrev pub moments_of : Calls → Moments
moments_of calls = record { now = world_of calls; past = past_of calls }

-- ---- what the code reads out of them

abbrev pub view_of : Opening → View
view_of o = record { file = o.file; way = o.way; place = o.place; shut = o.shut }

abbrev pub shut_of : View → View
shut_of s = record s { shut = true }

abbrev pub placed_at : ℕ → View → View
placed_at place s = record s { place = place }

abbrev pub seen_by : Change → View → View
seen_by Closed s = shut_of s
seen_by (Placed place) s = placed_at place s
seen_by (Put bytes) s = s
seen_by (Written place bytes) s = s
seen_by Cut s = s
seen_by Unsynced s = s

abbrev pub is_none_way : Option Way → Bool
is_none_way None = true
is_none_way (Some way) = false

abbrev pub opens_folder : Option View → Bool
opens_folder None = false
opens_folder (Some s) = if is_none_way s.way then s.file == 0 else false

abbrev pub synced_by : Option Way → FileState → FileState
synced_by None f = f
synced_by (Some way) f = synced f

pub record ShowsFile (now : FileNow) (f : FileState) : Type 0 where
  pub regular : f.kind ≡ Regular
  pub bytes : now.bytes.items ≡ f.bytes
  pub whole : now.whole ≡ has_whole f.unsure
  pub spoiled : now.spoiled ≡ f.spoiled
