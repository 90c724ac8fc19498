-- `put` writes one of the words. Assumes `Logic`.
use Rattle.std.proofs.Common.{◌≡◌, ℕ, ◌+◌, ◌*◌, ◌^◌, ◌<◌, List, [], ◌∷◌, ◌++◌, length, get_or, set, refl, sym, ◌∙◌, arith, w16, w64}
use Rattle.std.proofs.Math.ListN.{length-set}
use Rattle.std.proofs.VecSteps.Shapes.{after}
use Rattle.std.proofs.raw_atomic.Walks.{proved_at}
use base.Fraction.{full_share}
use base.Fml.{ftrue, fat, flft}
use base.Logic.{SProp, never, id⊢}
use contract.Monad.{fact}
use contract.Running.{tables}
use mir.Syntax.{ty_int}
use mir.Val.{Val, vptr, vint, vunit}
use prog.Wp.{Env, WpFn}
use types.Kit.{‵, raw, ◌⊛◌, prop, at_ret, ◌$◌, ◌∵◌, !, qed, move, keep, use1, use2, split, join, rewrite, regoal, fsplit, fsplit3, fjoin, fjoin3, feq_i, suffices, frame, done}
use types.Part.{whole, sub}
use types.Run.{stop, fld, lit, unit_lit, of_opd, bin, store, assigns_last, first, blocks, exec, returns, enter}
use types.ByLocal.{alloc_all, pass_all, free_all, look_at, get, get_in, take_at, give_at, through, sets, env}
use denote.Builtin.{u16}
use denote.Index.{row}
use denote.Param.{layout}
use denote.RattleType.{owns}
use denote.RawPtr.{Ptr, in_a_block}
use denote.Signature.{plain, types_at}
use denote.Steps.{nothing, heard, opens, closes}
use denote.Triple.Walked.{says, Stays, stay_dropped, stay_ref, walk_of, ends_at, Goes-dropped, Goes-ref}
use Rattle.core_segment.specs.Memory.{IsSize, words_at, room_past}
use Rattle.core_segment.specs.contracts.memory.Base as B
use Rattle.core_segment.specs.contracts.memory.Cells.{the_row as Cr}
use Rattle.core_segment.specs.contracts.memory.Cells.put as f
use Rattle.core_segment.proofs.Cell.{rest, word_out, word_in}
use Rattle.core_segment.proofs.Walks.{slot_at, base_val, base_told, base_typed}
use Rattle.core_segment.proofs.memory.Cells.put.Statement.{statement}
use Rattle.core_segment.proofs.memory.Cells.put.Code as code

abbrev stayed : Stays f.ended.signature.params f.ended.kept
stayed = (stay_ref (0 ∷ []) tt (plain (λ _. Cr)), (stay_dropped (slot_at 1 f.ended.signature.params) f.ended.kept.1.0, (stay_dropped (slot_at 2 f.ended.signature.params) f.ended.kept.1.1.0, (stay_dropped (slot_at 3 f.ended.signature.params) f.ended.kept.1.1.1.0, tt))))

pub put_spec : {M : Type 1} → statement M
put_spec 𝓤 𝓛 𝓜 𝓡 wired =
    let H = 𝓛.H in
    let c = f.clauses 𝓛 𝓜.mem 𝓡.returns in
    let C = (tables 𝓤 H 𝓜 𝓡 𝓡.env).C in
    let Λ = (tables 𝓤 H 𝓜 𝓡 𝓡.env).Λ in
    proved_at 𝓛 f.ended stayed c 𝓜 𝓡
    (Goes-ref 𝓛 1 0 tt (plain (λ _. Cr)), (Goes-dropped 𝓛 1 (slot_at 1 f.ended.signature.params) f.ended.kept.1.0 (λ κs x w. refl), (Goes-dropped 𝓛 1 (slot_at 2 f.ended.signature.params) f.ended.kept.1.1.0 (λ κs x w. refl), (Goes-dropped 𝓛 1 (slot_at 3 f.ended.signature.params) f.ended.kept.1.1.1.0 (λ κs x w. refl), tt))))
    f.Key.name code.function (code.unfolded 𝓤 H 𝓜 𝓡 wired) (λ z are.
    let Post : Val → SProp 𝓤 = (walk_of 𝓛 f.ended stayed c).post z in
    let a = z.0.3 in
    let vss = z.0.4 in
    let rb = a.0.ref_ptr.0 in
    let ro = a.0.ref_ptr.1 in
    let d = a.0.now in
    let p : Ptr = a.1.0.ptr in
    let i : ℕ = a.1.1.0 in
    let w : ℕ = a.1.1.1.0 in
    let new : Cr.Denot = record { at = d.at; items = set d.items i w; spare = d.spare } in
    let Asked : Type 0 = (p ≡ d.at) × (i < length d.items) × IsSize (length d.items) in
    qed 𝓛 (((‵ (flft z.0.0.0 z.0.1.0) ⊛ ‵ ftrue) ⊛ ‵ (owns (types_at f.ended.signature.params z.0.0) a vss)) ∷ raw (fact 𝓤 Asked) ∷ []) ∵
    move ! (1 ∷ []) $ heard ! Asked (λ asked. split ! $ split ! $ move ! (2 ∷ []) $ fsplit ! $ fsplit3 ! $ keep ! (1 ∷ 2 ∷ 4 ∷ []) $
    let fi : i < 2 ^ 64 = are.1.1.0.1 in
    let fw : w < 2 ^ 16 = are.1.1.1.0.1 in
    let size : length d.items * 2 < 2 ^ 63 = asked.2 in
    let low : i < length d.items = asked.1 in
    let far : i * 2 < 2 ^ 64 = omega arith in
    regoal ! (λ (us : List Val). prop (WpFn 𝓤 H C Λ code.function us Post)) (λ j. are.0.0 j ++ (base_told p vss.1.0 are.1.0 j ++ (are.1.1.0.0 j ++ (are.1.1.1.0.0 j ++ [])))) refl $
    enter ! C Λ code.function (vptr rb ro ∷ base_val p ∷ vint w64 i ∷ vint w16 w ∷ []) Post $
    alloc_all ! (λ l. pass_all ! refl ((tt, tt), (base_typed p, ((tt, record { fits = fi }), ((tt, record { fits = fw }), tt)))) $
    let En : Env 𝓤 H = env code.function.locals l in
    opens ! tt Cr {h = d} rb ro (λ vs. move ! (1 ∷ []) $ fsplit ! $ move ! (1 ∷ []) $ fsplit ! $
    in_a_block ! d.at (λ q. words_at q d.items) (id⊢ 𝓤 (never 𝓤)) (λ b o e.
    take_at ! 2 $ rewrite ! 0 (λ (q : Ptr). ‵ (fat full_share (layout B.the_row) (l 2) 0 (base_val q))) (asked.0 ∙ e) refl $ give_at ! 2 $
    first ! $ blocks ! $
    sets ! (bin ! (get ! refl) (lit ! tt) (record { fits = far })) refl (tt, record { fits = far }) $
    sets ! (bin ! (get_in ! (fld ! refl (stop !)) (sub ! 0 refl (whole !))) (get ! refl) tt) refl (tt, tt) $
    use1 𝓛 (‵ (fat full_share (ty_int w16) b (i * 2 + o) (vint w16 (get_or d.items i 0))) ⊛ ‵ (rest 𝓛 b o d.items i)) (word_out 𝓛 b o d.items i low) $ split ! $
    assigns_last ! (of_opd ! (get ! refl)) (through ! refl (stop !)) (store ! 0 refl (tt, record { fits = fw })) $
    exec ! C Λ En (after 1 code.function.body) (at_ret En Post) $
    sets ! (of_opd ! (unit_lit !)) refl (tt, tt) $
    use2 𝓛 (‵ (row u16 full_share new.items b o)) (word_in 𝓛 b o d.items i w low) $
    rewrite ! 0 (λ (q : Ptr). ‵ (words_at q new.items)) (sym e) refl $ move ! (1 ∷ []) $
    rewrite ! 0 (λ (k : ℕ). ‵ (room_past d.at k d.spare)) (sym (length-set d.items i w)) refl $ move ! (1 ∷ 0 ∷ []) $ fjoin ! $
    move ! (1 ∷ 0 ∷ []) $ fjoin ! $ move ! (1 ∷ 0 ∷ []) $ closes ! tt Cr new vs rb ro $
    returns ! (look_at ! 0 refl) $ free_all ! refl $ keep ! (0 ∷ 1 ∷ 2 ∷ []) $
    suffices ! _ (ends_at 𝓛 f.ended stayed c z vunit tt (new, (tt, (tt, (tt, tt)))) (tt, (tt, (tt, (tt, tt))))) $ says ! (refl, refl, refl) $
    nothing ! $ move ! (3 ∷ 0 ∷ []) $ join ! $ frame ! $ feq_i ! (List Val) vss.0 (vptr rb ro ∷ []) are.0.0 $ fjoin3 ! $
    nothing ! $ nothing ! $ fjoin ! $ nothing ! $ fjoin ! $ nothing ! $ fjoin ! $ move ! (1 ∷ 0 ∷ []) $ fjoin ! $
    feq_i ! (List Val) (vunit ∷ []) (vunit ∷ []) refl $ move ! (1 ∷ 0 ∷ []) $ done !)))))
