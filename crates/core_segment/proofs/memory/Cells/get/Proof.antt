-- `get` shows one of the words. Assumes `Logic`.
use Rattle.std.proofs.Common.{◌≡◌, ℕ, ◌+◌, ◌*◌, ◌^◌, ◌<◌, List, [], ◌∷◌, ◌++◌, length, get_or, refl, ◌∙◌, arith, w64}
use Rattle.std.proofs.VecSteps.Shapes.{after}
use Rattle.std.proofs.raw_atomic.Walks.{proved_at, leaves}
use base.Fraction.{full_share}
use base.Fml.{fat}
use base.Logic.{SProp, emp, never, id⊢}
use contract.Monad.{fact, fact_i}
use contract.Running.{tables}
use mir.Val.{Val, vptr, vint}
use prog.Wp.{Env, WpFn}
use types.Kit.{‵, raw, ◌⊛◌, prop, at_ret, ◌$◌, ◌∵◌, !, qed, by, move, drop, use0, use1, split, rewrite, regoal, fsplit, fjoin, feq_i}
use types.Part.{whole, sub}
use types.Run.{stop, fld, lit, of_opd, bin, addr, first, blocks, exec, returns, enter}
use types.ByLocal.{alloc_all, pass_all, free_all, look_at, get, get_in, take_at, give_at, through, sets, sets_last, env}
use denote.Builtin.{u16}
use denote.Memory.{shared_of}
use denote.Opens.{hide, unhide}
use denote.Param.{layout}
use denote.RattleType.{owns}
use denote.RawPtr.{Ptr, in_a_block}
use denote.Signature.{types_at}
use denote.Steps.{nothing, heard}
use denote.Triple.Entry.{alive}
use denote.Triple.Walked.{Stays, stay_dropped, walk_of, Goes-dropped}
use Rattle.core_segment.specs.Memory.{IsSize, words_lent}
use Rattle.core_segment.specs.contracts.memory.Base as B
use Rattle.core_segment.specs.contracts.memory.Cells.get as f
use Rattle.core_segment.proofs.Cell.{word_seen}
use Rattle.core_segment.proofs.Walks.{slot_at, base_val, base_told, base_typed}
use Rattle.core_segment.proofs.memory.Cells.get.Statement.{statement}
use Rattle.core_segment.proofs.memory.Cells.get.Code as code

abbrev stayed : Stays f.ended.signature.params f.ended.kept
stayed = (stay_dropped (slot_at 0 f.ended.signature.params) f.ended.kept.0, (stay_dropped (slot_at 1 f.ended.signature.params) f.ended.kept.1.0, (stay_dropped (slot_at 2 f.ended.signature.params) f.ended.kept.1.1.0, tt)))

pub get_spec : {M : Type 1} → statement M
get_spec 𝓤 𝓛 𝓜 𝓡 wired =
    let H = 𝓛.H in
    let c = f.clauses 𝓛 𝓜.mem 𝓡.returns in
    let C = (tables 𝓤 H 𝓜 𝓡 𝓡.env).C in
    let Λ = (tables 𝓤 H 𝓜 𝓡 𝓡.env).Λ in
    proved_at 𝓛 f.ended stayed c 𝓜 𝓡
    (Goes-dropped 𝓛 1 (slot_at 0 f.ended.signature.params) f.ended.kept.0 (λ κs x w. refl), (Goes-dropped 𝓛 1 (slot_at 1 f.ended.signature.params) f.ended.kept.1.0 (λ κs x w. refl), (Goes-dropped 𝓛 1 (slot_at 2 f.ended.signature.params) f.ended.kept.1.1.0 (λ κs x w. refl), tt)))
    f.Key.name code.function (code.unfolded 𝓤 H 𝓜 𝓡 wired) (λ z are.
    let Post : Val → SProp 𝓤 = (walk_of 𝓛 f.ended stayed c).post z in
    let a = z.0.3 in
    let vss = z.0.4 in
    let κ = z.0.0.0 in
    let rb = a.0.ref_ptr.0 in
    let ro = a.0.ref_ptr.1 in
    let d = a.0.now in
    let p : Ptr = a.1.0.ptr in
    let i : ℕ = a.1.1.0 in
    let x : ℕ = get_or d.items i 0 in
    let Asked : Type 0 = (p ≡ d.at) × (i < length d.items) × IsSize (length d.items) in
    qed 𝓛 ((raw (alive 𝓛 f.ended.signature z.0.0 z.0.1) ⊛ ‵ (owns (types_at f.ended.signature.params z.0.0) a vss)) ∷ raw (fact 𝓤 Asked) ∷ []) ∵
    move ! (1 ∷ []) $ heard ! Asked (λ asked. split ! $ move ! (1 ∷ []) $ fsplit ! $ fsplit ! $ drop ! $ move ! (1 ∷ []) $ drop ! $
    let fi : i < 2 ^ 64 = are.1.1.0.1 in
    let size : length d.items * 2 < 2 ^ 63 = asked.2 in
    let low : i < length d.items = asked.1 in
    let far : i * 2 < 2 ^ 64 = omega arith in
    regoal ! (λ (us : List Val). prop (WpFn 𝓤 H C Λ code.function us Post)) (λ j. are.0.0 j ++ (base_told p vss.1.0 are.1.0 j ++ (are.1.1.0.0 j ++ []))) refl $
    enter ! C Λ code.function (vptr rb ro ∷ base_val p ∷ vint w64 i ∷ []) Post $
    alloc_all ! (λ l. pass_all ! refl ((tt, tt), (base_typed p, ((tt, record { fits = fi }), tt))) $
    let En : Env 𝓤 H = env code.function.locals l in
    unhide ! $ fsplit ! $ drop ! $ in_a_block ! d.at (λ q. words_lent q d.items κ) (id⊢ 𝓤 (never 𝓤)) (λ b o e.
    take_at ! 2 $ rewrite ! 0 (λ (q : Ptr). ‵ (fat full_share (layout B.the_row) (l 2) 0 (base_val q))) (asked.0 ∙ e) refl $ give_at ! 2 $
    first ! $ blocks ! $
    sets ! (bin ! (get ! refl) (lit ! tt) (record { fits = far })) refl (tt, record { fits = far }) $
    sets ! (bin ! (get_in ! (fld ! refl (stop !)) (sub ! 0 refl (whole !))) (get ! refl) tt) refl (tt, tt) $
    use1 𝓛 (‵ (shared_of u16 x b (i * 2 + o) κ)) (word_seen 𝓛 b κ d.items i o (i * 2 + o) refl low) $ hide ! $
    sets_last ! (addr ! (through ! refl (stop !))) refl (tt, tt) $ exec ! C Λ En (after 1 code.function.body) (at_ret En Post) $
    sets ! (of_opd ! (get ! refl)) refl (tt, tt) $
    feq_i ! (List Val) (vptr b (i * 2 + o) ∷ []) (vptr b (i * 2 + o) ∷ []) refl $ fjoin ! $
    returns ! (look_at ! 0 refl) $ free_all ! refl $
    use0 𝓛 (raw (fact 𝓤 (x ≡ x))) (fact_i 𝓤 (x ≡ x) (emp 𝓤) refl) $ nothing ! $ nothing ! $ fjoin ! $ nothing ! $ fjoin ! $ nothing ! $ fjoin ! $ move ! (3 ∷ 0 ∷ 2 ∷ 1 ∷ []) $
    by ! (leaves 𝓛 f.ended stayed c z (vptr b (i * 2 + o)) (record { ref_ptr = (b, i * 2 + o); now = x }) (tt, (tt, (tt, tt))) (tt, (tt, (tt, tt))))))))
