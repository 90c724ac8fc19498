-- Which table has a primitive, and what becomes of a try.
-- A primitive is tried in the table that has its index: `try_integer` and `try_object` say so by the least and the greatest
-- index of each.
use Rattle.std.proofs.Common.{◌≡◌, ℕ, ◌<◌, ◌≤◌, ◌==◌, nat_le, Bool, true, false, List, [], ◌∷◌, ◌++◌, Result, refl, sym, ◌∙◌, ap, subst, arith}
use Rattle.std.proofs.lemmas.Bool.Decides.{nat_tests}
use Rattle.std.proofs.lemmas.Grind.{common_steps}
use Rattle.std.specs.List.{list_all}
use Rattle.long_names.proofs.ThinLemmas.{both}
use Rattle.object_memory.specs.Told.{Told}
use Rattle.blue_model.specs.declared.answer.Answer.{Answer}
use Rattle.blue_model.specs.declared.answer.Answer.TheVariants.{Done}
use Rattle.blue_model.specs.declared.cpu.Cpu.{Cpu}
use Rattle.blue_model.specs.declared.event.Line.{Line}
use Rattle.blue_model.specs.Machine.{Rule, pick}
use Rattle.blue_model.specs.Trials.{Primitive, with_arguments, primitive_in}
use Rattle.blue_model.specs.Arithmetic.{integer_primitives}
use Rattle.blue_model.specs.LargeInts.{large_primitives}
use Rattle.blue_model.specs.Storage.{object_primitives}
use Rattle.blue_model.specs.Primitives.{is_control, is_process, is_blit, is_device, is_large, has_failed, primitive}
use Rattle.blue_model.specs.Control.{control_primitive}
use Rattle.blue_model.specs.Processes.{process_primitives}
use Rattle.blue_model.specs.BitBlt.{blit_primitives}
use Rattle.blue_model.specs.Devices.{device_primitives}
use Rattle.blue_model.specs.Sends.{is_execute}
use Rattle.contexts.specs.declared.stop.Stop.{Stop}
use Rattle.contexts.specs.Serves.{Serves, Speaks}
use Rattle.contexts.proofs.ServesLaws.{speaks_quiet}
use Rattle.contexts.proofs.Steps.{pick_true, pick_false}

-- ---- rows that a table hasn't

above : ℕ → Primitive → Bool
above low p = nat_le low p.index

below : ℕ → Primitive → Bool
below high p = nat_le p.index high

-- no row of the index
other_above : (low n index : ℕ) → nat_le low n ≡ true → index < low → (n == index) ≡ false
other_above low n index e f = grind (arith, nat_tests, common_steps)

other_below : (high n index : ℕ) → nat_le n high ≡ true → high < index → (n == index) ≡ false
other_below high n index e f = grind (arith, nat_tests, common_steps)

-- a row of another index doesn't count
passed : (p : Primitive) (rest : Rule Answer) (index : ℕ) → (p.index == index) ≡ false → pick (p.index == index) (with_arguments p) rest ≡ rest
unfolding pick
passed p rest index e = ap (λ b. pick b (with_arguments p) rest) e

none_above : (ps : List Primitive) (low index : ℕ) → list_all (above low) ps ≡ true → index < low → primitive_in ps index ≡ primitive_in [] index
unfolding above
none_above [] low index e f = refl
none_above (p ∷ ps) low index e f = (let parts = both (above low p) (list_all (above low) ps) e in passed p (primitive_in ps index) index (other_above low p.index index parts.0 f) ∙ none_above ps low index parts.1 f)

-- the first table, where the second hasn't the index
first_rows : (ps qs : List Primitive) (index : ℕ) → primitive_in qs index ≡ primitive_in [] index → primitive_in (ps ++ qs) index ≡ primitive_in ps index
first_rows [] qs index e = e
first_rows (p ∷ ps) qs index e = ap (λ (rest : Rule Answer). pick (p.index == index) (with_arguments p) rest) (first_rows ps qs index e)

-- the second, where the first hasn't
last_rows : (ps qs : List Primitive) (high index : ℕ) → list_all (below high) ps ≡ true → high < index → primitive_in (ps ++ qs) index ≡ primitive_in qs index
unfolding below
last_rows [] qs high index e f = refl
last_rows (p ∷ ps) qs high index e f = (let parts = both (below high p) (list_all (below high) ps) e in passed p (primitive_in (ps ++ qs) index) index (other_below high p.index index parts.0 f) ∙ last_rows ps qs high index parts.1 f)

objects_above : list_all (above 60) object_primitives ≡ true
unfolding above object_primitives
objects_above = refl

integers_below : list_all (below 59) integer_primitives ≡ true
unfolding below integer_primitives
integers_below = refl

-- ---- tries

try_first : {old new : Told} {cpu now : Cpu} {answer : Result Answer Stop} (events : List Line) (index : ℕ) → is_control index ≡ false → is_process index ≡ false → is_blit index ≡ false → is_device index ≡ false → is_large index ≡ false → Serves old cpu new now (primitive_in (integer_primitives ++ object_primitives) index) answer → Speaks Done old cpu new now (primitive events index) answer
unfolding primitive
try_first events index control process blit device large s =
    speaks_quiet (pick_false _ (control_primitive index) _ control (pick_false _ (primitive_in process_primitives index) _ process
    (pick_false _ (primitive_in blit_primitives index) _ blit (pick_false _ (primitive_in (device_primitives events) index) _ device
    (pick_false _ (primitive_in large_primitives index) _ large s)))))

pub try_integer : {old new : Told} {cpu now : Cpu} {answer : Result Answer Stop} (events : List Line) (index : ℕ) → is_control index ≡ false → is_process index ≡ false → is_blit index ≡ false → is_device index ≡ false → is_large index ≡ false → index < 60 → Serves old cpu new now (primitive_in integer_primitives index) answer → Speaks Done old cpu new now (primitive events index) answer
try_integer {old} {new} {cpu} {now} {answer} events index control process blit device large low s =
    try_first events index control process blit device large (subst (λ (rule : Rule Answer). Serves old cpu new now rule answer) (sym (first_rows integer_primitives object_primitives index (none_above object_primitives 60 index objects_above low))) s)

pub try_object : {old new : Told} {cpu now : Cpu} {answer : Result Answer Stop} (events : List Line) (index : ℕ) → is_control index ≡ false → is_process index ≡ false → is_blit index ≡ false → is_device index ≡ false → is_large index ≡ false → 60 ≤ index → Serves old cpu new now (primitive_in object_primitives index) answer → Speaks Done old cpu new now (primitive events index) answer
try_object {old} {new} {cpu} {now} {answer} events index control process blit device large high s =
    try_first events index control process blit device large (subst (λ (rule : Rule Answer). Serves old cpu new now rule answer) (sym (last_rows integer_primitives object_primitives 59 index integers_below (omega arith))) s)

pub try_large : {old new : Told} {cpu now : Cpu} {answer : Result Answer Stop} (events : List Line) (index : ℕ) → is_control index ≡ false → is_process index ≡ false → is_blit index ≡ false → is_device index ≡ false → is_large index ≡ true → Serves old cpu new now (primitive_in large_primitives index) answer → Speaks Done old cpu new now (primitive events index) answer
unfolding primitive
try_large events index control process blit device large s =
    speaks_quiet (pick_false _ (control_primitive index) _ control (pick_false _ (primitive_in process_primitives index) _ process
    (pick_false _ (primitive_in blit_primitives index) _ blit (pick_false _ (primitive_in (device_primitives events) index) _ device
    (pick_true _ (primitive_in large_primitives index) _ large s)))))

pub try_control : {old new : Told} {cpu now : Cpu} {answer : Result Answer Stop} (events : List Line) (index : ℕ) → is_control index ≡ true → Serves old cpu new now (control_primitive index) answer → Speaks Done old cpu new now (primitive events index) answer
unfolding primitive
try_control events index control s = speaks_quiet (pick_true _ (control_primitive index) _ control s)

pub try_process : {old new : Told} {cpu now : Cpu} {answer : Result Answer Stop} (events : List Line) (index : ℕ) → is_control index ≡ false → is_process index ≡ true → Serves old cpu new now (primitive_in process_primitives index) answer → Speaks Done old cpu new now (primitive events index) answer
unfolding primitive
try_process events index control process s =
    speaks_quiet (pick_false _ (control_primitive index) _ control (pick_true _ (primitive_in process_primitives index) _ process s))

pub try_blit : {old new : Told} {cpu now : Cpu} {answer : Result Answer Stop} (events : List Line) (index : ℕ) → is_control index ≡ false → is_process index ≡ false → is_blit index ≡ true → Serves old cpu new now (primitive_in blit_primitives index) answer → Speaks Done old cpu new now (primitive events index) answer
unfolding primitive
try_blit events index control process blit s =
    speaks_quiet (pick_false _ (control_primitive index) _ control (pick_false _ (primitive_in process_primitives index) _ process
    (pick_true _ (primitive_in blit_primitives index) _ blit s)))

pub try_device : {old new : Told} {cpu now : Cpu} {answer : Result Answer Stop} (events : List Line) (index : ℕ) → is_control index ≡ false → is_process index ≡ false → is_blit index ≡ false → is_device index ≡ true → Speaks Done old cpu new now (primitive_in (device_primitives events) index) answer → Speaks Done old cpu new now (primitive events index) answer
unfolding primitive
try_device events index control process blit device s =
    pick_false _ (control_primitive index) _ control (pick_false _ (primitive_in process_primitives index) _ process
    (pick_false _ (primitive_in blit_primitives index) _ blit (pick_true _ (primitive_in (device_primitives events) index) _ device s)))

-- ---- answers after which nothing has been said

pub not_failed : (a : Answer) → has_failed a ≡ true → a ≡ Done → ⊥
not_failed a failed done = let no : ◌≡◌ {A = Bool} true false = sym failed ∙ ap has_failed done in absurd (cc)

pub not_executed : (a : Answer) → is_execute a ≡ true → a ≡ Done → ⊥
not_executed a execute done = let no : ◌≡◌ {A = Bool} true false = sym execute ∙ ap is_execute done in absurd (cc)
