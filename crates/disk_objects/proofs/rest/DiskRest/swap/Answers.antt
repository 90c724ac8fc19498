use Rattle.std.proofs.Common.{◌≡◌, ◌≢◌, inl, inr, ℕ, List, Option, refl, sym, subst, ap, ◌∙◌, arith}
use Rattle.std.specs.Prelude.{IsSome}
use Rattle.std.specs.FinMap as map
use Rattle.std.proofs.lemmas.Result.{on_ok_weaker}
use Rattle.loom_host.specs.declared.outside.Role.TheVariants.{Work}
use Rattle.loom_host.specs.Work.{work_of}
use Rattle.loom_host.proofs.WorkLaws.{work-same, exits}
use Rattle.object_record.specs.Raw.{with_name}
use Rattle.work_directory.specs.Table.{Entry, Entries}
use Rattle.work_directory.specs.declared.directory.Found.TheVariants.{Held}
use Rattle.disk_objects.specs.declared.rest.DiskRest.{DiskRest}
use Rattle.disk_objects.specs.Calls.{IsEitherFault, swapped}
use Rattle.disk_objects.specs.Disk.{IsDisk, IsLaid}
use Rattle.disk_objects.specs.Inside.{IsHeld, Writes}
use Rattle.disk_objects.specs.Places.{IsReadPlace}
use Rattle.disk_objects.proofs.FoundLaws.{held-there, record-sound}
use Rattle.disk_objects.proofs.SwapLaws.{swapping, swap-itself, to-first, to-second, to-second-ends, to-last}
use Rattle.disk_objects.proofs.rest.DiskRest.swap.Goals as goal

pub returns-then-get-clause-swapped : goal.returns-then-get-clause-swapped
returns-then-get-clause-swapped g c told objects pending k =
    let v : List ℕ = work_of g.H.Host c.args.host.now in
    let s = c.requires.stands told in
    let e = held-there c.args.self.now v s.0 s.1 s.2 c.args.a s.3.0 in
    swap-itself c.args.self.now v objects pending k c.args.a c.args.b e.0 (sym c.get.ensures.value ∙ c.if-get.true ∙ c.get-2.ensures.value) e.1

pub look_held-requires : goal.look_held-requires
look_held-requires g c = record { stands = λ told. let s = c.requires.stands told in (s.0, s.1, s.2, s.3.0) }

pub look_held-requires-2 : goal.look_held-requires-2
look_held-requires-2 g c = record {
  stands = λ told.
      let s = c.requires.stands told in
      (s.0, s.1, subst (λ (w : List ℕ). IsDisk c.args.self.now w s.0 s.1) (sym (work-same g.H.Host c.args.host.now c.look_held.new.host c.in_ok-one.ensures.read)) s.2, s.3.1);
}

pub returns-in_err-rename_record-clause-fault : goal.returns-in_err-rename_record-clause-fault
returns-in_err-rename_record-clause-fault g c =
    let h = g.H.Host in
    let v : List ℕ = work_of h c.args.host.now in
    let w : List ℕ = work_of h c.look_held-2.new.host in
    let fault = c.in_err-rename_record.field-0.0 in
    let before : ℕ = h.faults c.args.host.now Work in
    let mid : ℕ = h.faults c.look_held-2.new.host Work in
    let now : ℕ = h.faults c.rename_record.new.host Work in
    exits c.from_residual-in_err-rename_record.result fault (IsEitherFault (h.tells Work) before now (IsReadPlace c.args.self.now) c.args.a c.args.b) c.from_residual-in_err-rename_record.ensures.1
    (inl (record-sound (h.tells Work) before mid now c.in_ok-one.one.place c.args.a (IsReadPlace c.args.self.now) fault (inr c.in_ok-one.ensures.sized.place) (λ told.
    let s = c.requires.stands told in
    let f = swapping c.args.self.now v s.0 s.1 s.2 c.args.a c.args.b c.in_ok-one.one c.in_ok-two.two (c.in_ok-one.ensures.found told)
    (subst (λ (u : List ℕ). IsHeld c.args.self.now u c.args.b c.in_ok-two.two) (work-same h c.args.host.now c.look_held.new.host c.in_ok-one.ensures.read) (c.in_ok-two.ensures.found told))
    c.in_ok-one.ensures.sized c.in_ok-two.ensures.sized in
    let still : w ≡ v = work-same h c.look_held.new.host c.look_held-2.new.host c.in_ok-two.ensures.read ∙ work-same h c.args.host.now c.look_held.new.host c.in_ok-one.ensures.read in
    let laid : IsLaid w c.in_ok-one.one.place f.o.raw (s.2.link c.args.a) = subst (λ (u : List ℕ). IsLaid u c.in_ok-one.one.place f.o.raw (s.2.link c.args.a)) (sym still) f.block_a.laid in
    c.in_err-rename_record.ensures.renamed told f.o.raw (s.2.link c.args.a) f.block_a.raw f.block_a.named laid)
    (omega (arith, c.in_ok-one.ensures.read.later, c.in_ok-two.ensures.read.later)) c.in_err-rename_record.ensures.fault))

pub returns-in_err-rename_record-2-clause-fault : goal.returns-in_err-rename_record-2-clause-fault
returns-in_err-rename_record-2-clause-fault g c =
    let h = g.H.Host in
    let v : List ℕ = work_of h c.args.host.now in
    let w : List ℕ = work_of h c.look_held-2.new.host in
    let fault = c.in_err-rename_record-2.field-0.0 in
    let before : ℕ = h.faults c.args.host.now Work in
    let mid : ℕ = h.faults c.rename_record.new.host Work in
    let now : ℕ = h.faults c.rename_record-2.new.host Work in
    exits c.from_residual-in_err-rename_record-2.result fault (IsEitherFault (h.tells Work) before now (IsReadPlace c.args.self.now) c.args.a c.args.b) c.from_residual-in_err-rename_record-2.ensures.1
    (inr (record-sound (h.tells Work) before mid now c.in_ok-two.two.place c.args.b (IsReadPlace c.args.self.now) fault (inr c.in_ok-two.ensures.sized.place) (λ told.
    let s = c.requires.stands told in
    let f = swapping c.args.self.now v s.0 s.1 s.2 c.args.a c.args.b c.in_ok-one.one c.in_ok-two.two (c.in_ok-one.ensures.found told)
    (subst (λ (u : List ℕ). IsHeld c.args.self.now u c.args.b c.in_ok-two.two) (work-same h c.args.host.now c.look_held.new.host c.in_ok-one.ensures.read) (c.in_ok-two.ensures.found told))
    c.in_ok-one.ensures.sized c.in_ok-two.ensures.sized in
    let still : w ≡ v = work-same h c.look_held.new.host c.look_held-2.new.host c.in_ok-two.ensures.read ∙ work-same h c.args.host.now c.look_held.new.host c.in_ok-one.ensures.read in
    let laid : IsLaid w c.in_ok-one.one.place f.o.raw (s.2.link c.args.a) = subst (λ (u : List ℕ). IsLaid u c.in_ok-one.one.place f.o.raw (s.2.link c.args.a)) (sym still) f.block_a.laid in
    let apart : c.args.a ≢ c.args.b = λ same. c.if-get.false (c.get.ensures.value ∙ same ∙ sym c.get-2.ensures.value) in
    let x : List ℕ = work_of h c.rename_record.new.host in
    let first : Writes v x c.in_ok-one.one.place (with_name f.o.raw c.args.b) c.in_ok-two.two.head.link =
    subst (λ (u : List ℕ). Writes u x c.in_ok-one.one.place (with_name f.o.raw c.args.b) c.in_ok-two.two.head.link) still
    (c.in_ok-rename_record.ensures.renamed told f.o.raw (s.2.link c.args.a) f.block_a.raw f.block_a.named laid) in
    let there = to-first c.args.self.now v s.0 s.1 s.2 c.args.a c.args.b c.in_ok-one.one c.in_ok-two.two f apart x first in
    c.in_err-rename_record-2.ensures.renamed told f.p.raw (s.2.link c.args.b) f.block_b.raw f.block_b.named there)
    (omega (arith, c.in_ok-one.ensures.read.later, c.in_ok-two.ensures.read.later, c.in_ok-rename_record.ensures.work.later)) c.in_err-rename_record-2.ensures.fault))

pub exchange-requires-clause-stands : goal.exchange-requires-clause-stands
exchange-requires-clause-stands g c told =
    let h = g.H.Host in
    let v : List ℕ = work_of h c.args.host.now in
    let w : List ℕ = work_of h c.look_held-2.new.host in
    let s = c.requires.stands told in
    let f = swapping c.args.self.now v s.0 s.1 s.2 c.args.a c.args.b c.in_ok-one.one c.in_ok-two.two (c.in_ok-one.ensures.found told)
    (subst (λ (u : List ℕ). IsHeld c.args.self.now u c.args.b c.in_ok-two.two) (work-same h c.args.host.now c.look_held.new.host c.in_ok-one.ensures.read) (c.in_ok-two.ensures.found told))
    c.in_ok-one.ensures.sized c.in_ok-two.ensures.sized in
    let still : w ≡ v = work-same h c.look_held.new.host c.look_held-2.new.host c.in_ok-two.ensures.read ∙ work-same h c.args.host.now c.look_held.new.host c.in_ok-one.ensures.read in
    let laid : IsLaid w c.in_ok-one.one.place f.o.raw (s.2.link c.args.a) = subst (λ (u : List ℕ). IsLaid u c.in_ok-one.one.place f.o.raw (s.2.link c.args.a)) (sym still) f.block_a.laid in
    let apart : c.args.a ≢ c.args.b = λ same. c.if-get.false (c.get.ensures.value ∙ same ∙ sym c.get-2.ensures.value) in
    let x : List ℕ = work_of h c.rename_record.new.host in
    let first : Writes v x c.in_ok-one.one.place (with_name f.o.raw c.args.b) c.in_ok-two.two.head.link =
    subst (λ (u : List ℕ). Writes u x c.in_ok-one.one.place (with_name f.o.raw c.args.b) c.in_ok-two.two.head.link) still
    (c.in_ok-rename_record.ensures.renamed told f.o.raw (s.2.link c.args.a) f.block_a.raw f.block_a.named laid) in
    let there = to-first c.args.self.now v s.0 s.1 s.2 c.args.a c.args.b c.in_ok-one.one c.in_ok-two.two f apart x first in
    let y : List ℕ = work_of h c.rename_record-2.new.host in
    let second : Writes x y c.in_ok-two.two.place (with_name f.p.raw c.args.a) c.in_ok-one.one.head.link =
    c.in_ok-rename_record-2.ensures.renamed told f.p.raw (s.2.link c.args.b) f.block_b.raw f.block_b.named there in
    let both = to-second c.args.self.now v s.0 s.1 s.2 c.args.a c.args.b c.in_ok-one.one c.in_ok-two.two f apart x first y second in
    both.0

pub exchange-requires-clause-one : goal.exchange-requires-clause-one
exchange-requires-clause-one g c =
    let h = g.H.Host in
    let end = c.in_ok-one.ensures.end in (
      end.0,
      (
        end.1.0,
        λ told.
            let v : List ℕ = work_of h c.args.host.now in
            let w : List ℕ = work_of h c.look_held-2.new.host in
            let s = c.requires.stands told in
            let f = swapping c.args.self.now v s.0 s.1 s.2 c.args.a c.args.b c.in_ok-one.one c.in_ok-two.two (c.in_ok-one.ensures.found told)
            (subst (λ (u : List ℕ). IsHeld c.args.self.now u c.args.b c.in_ok-two.two) (work-same h c.args.host.now c.look_held.new.host c.in_ok-one.ensures.read) (c.in_ok-two.ensures.found told))
            c.in_ok-one.ensures.sized c.in_ok-two.ensures.sized in
            let still : w ≡ v = work-same h c.look_held.new.host c.look_held-2.new.host c.in_ok-two.ensures.read ∙ work-same h c.args.host.now c.look_held.new.host c.in_ok-one.ensures.read in
            let laid : IsLaid w c.in_ok-one.one.place f.o.raw (s.2.link c.args.a) = subst (λ (u : List ℕ). IsLaid u c.in_ok-one.one.place f.o.raw (s.2.link c.args.a)) (sym still) f.block_a.laid in
            let apart : c.args.a ≢ c.args.b = λ same. c.if-get.false (c.get.ensures.value ∙ same ∙ sym c.get-2.ensures.value) in
            let x : List ℕ = work_of h c.rename_record.new.host in
            let first : Writes v x c.in_ok-one.one.place (with_name f.o.raw c.args.b) c.in_ok-two.two.head.link =
            subst (λ (u : List ℕ). Writes u x c.in_ok-one.one.place (with_name f.o.raw c.args.b) c.in_ok-two.two.head.link) still
            (c.in_ok-rename_record.ensures.renamed told f.o.raw (s.2.link c.args.a) f.block_a.raw f.block_a.named laid) in
            let there = to-first c.args.self.now v s.0 s.1 s.2 c.args.a c.args.b c.in_ok-one.one c.in_ok-two.two f apart x first in
            let y : List ℕ = work_of h c.rename_record-2.new.host in
            let second : Writes x y c.in_ok-two.two.place (with_name f.p.raw c.args.a) c.in_ok-one.one.head.link =
            c.in_ok-rename_record-2.ensures.renamed told f.p.raw (s.2.link c.args.b) f.block_b.raw f.block_b.named there in
            to-second-ends c.args.self.now v s.0 s.1 s.2 c.args.a c.args.b c.in_ok-one.one c.in_ok-two.two f apart x first y second c.args.a (Held c.in_ok-one.one.at end.0)
            end.1.0 (end.1.1 told),
      ),
    )

pub exchange-requires-clause-two : goal.exchange-requires-clause-two
exchange-requires-clause-two g c told =
    let h = g.H.Host in
    let v : List ℕ = work_of h c.args.host.now in
    let w : List ℕ = work_of h c.look_held-2.new.host in
    let s = c.requires.stands told in
    let f = swapping c.args.self.now v s.0 s.1 s.2 c.args.a c.args.b c.in_ok-one.one c.in_ok-two.two (c.in_ok-one.ensures.found told)
    (subst (λ (u : List ℕ). IsHeld c.args.self.now u c.args.b c.in_ok-two.two) (work-same h c.args.host.now c.look_held.new.host c.in_ok-one.ensures.read) (c.in_ok-two.ensures.found told))
    c.in_ok-one.ensures.sized c.in_ok-two.ensures.sized in
    let still : w ≡ v = work-same h c.look_held.new.host c.look_held-2.new.host c.in_ok-two.ensures.read ∙ work-same h c.args.host.now c.look_held.new.host c.in_ok-one.ensures.read in
    let laid : IsLaid w c.in_ok-one.one.place f.o.raw (s.2.link c.args.a) = subst (λ (u : List ℕ). IsLaid u c.in_ok-one.one.place f.o.raw (s.2.link c.args.a)) (sym still) f.block_a.laid in
    let apart : c.args.a ≢ c.args.b = λ same. c.if-get.false (c.get.ensures.value ∙ same ∙ sym c.get-2.ensures.value) in
    let x : List ℕ = work_of h c.rename_record.new.host in
    let first : Writes v x c.in_ok-one.one.place (with_name f.o.raw c.args.b) c.in_ok-two.two.head.link =
    subst (λ (u : List ℕ). Writes u x c.in_ok-one.one.place (with_name f.o.raw c.args.b) c.in_ok-two.two.head.link) still
    (c.in_ok-rename_record.ensures.renamed told f.o.raw (s.2.link c.args.a) f.block_a.raw f.block_a.named laid) in
    let there = to-first c.args.self.now v s.0 s.1 s.2 c.args.a c.args.b c.in_ok-one.one c.in_ok-two.two f apart x first in
    let y : List ℕ = work_of h c.rename_record-2.new.host in
    let second : Writes x y c.in_ok-two.two.place (with_name f.p.raw c.args.a) c.in_ok-one.one.head.link =
    c.in_ok-rename_record-2.ensures.renamed told f.p.raw (s.2.link c.args.b) f.block_b.raw f.block_b.named there in
    let both = to-second c.args.self.now v s.0 s.1 s.2 c.args.a c.args.b c.in_ok-one.one c.in_ok-two.two f apart x first y second in
    subst (λ (z : Option Entry). IsSome z) (sym (ap (λ (m : Entries). map.get m c.args.b) both.1 ∙ f.entry_b)) refl

pub returns-clause-swapped : goal.returns-clause-swapped
returns-clause-swapped g c told objects pending k =
    let h = g.H.Host in
    let v : List ℕ = work_of h c.args.host.now in
    let w : List ℕ = work_of h c.look_held-2.new.host in
    let f = swapping c.args.self.now v objects pending k c.args.a c.args.b c.in_ok-one.one c.in_ok-two.two (c.in_ok-one.ensures.found told)
    (subst (λ (u : List ℕ). IsHeld c.args.self.now u c.args.b c.in_ok-two.two) (work-same h c.args.host.now c.look_held.new.host c.in_ok-one.ensures.read) (c.in_ok-two.ensures.found told))
    c.in_ok-one.ensures.sized c.in_ok-two.ensures.sized in
    let still : w ≡ v = work-same h c.look_held.new.host c.look_held-2.new.host c.in_ok-two.ensures.read ∙ work-same h c.args.host.now c.look_held.new.host c.in_ok-one.ensures.read in
    let laid : IsLaid w c.in_ok-one.one.place f.o.raw (k.link c.args.a) = subst (λ (u : List ℕ). IsLaid u c.in_ok-one.one.place f.o.raw (k.link c.args.a)) (sym still) f.block_a.laid in
    let apart : c.args.a ≢ c.args.b = λ same. c.if-get.false (c.get.ensures.value ∙ same ∙ sym c.get-2.ensures.value) in
    let x : List ℕ = work_of h c.rename_record.new.host in
    let first : Writes v x c.in_ok-one.one.place (with_name f.o.raw c.args.b) c.in_ok-two.two.head.link =
    subst (λ (u : List ℕ). Writes u x c.in_ok-one.one.place (with_name f.o.raw c.args.b) c.in_ok-two.two.head.link) still
    (c.in_ok-rename_record.ensures.renamed told f.o.raw (k.link c.args.a) f.block_a.raw f.block_a.named laid) in
    let there = to-first c.args.self.now v objects pending k c.args.a c.args.b c.in_ok-one.one c.in_ok-two.two f apart x first in
    let y : List ℕ = work_of h c.rename_record-2.new.host in
    let second : Writes x y c.in_ok-two.two.place (with_name f.p.raw c.args.a) c.in_ok-one.one.head.link =
    c.in_ok-rename_record-2.ensures.renamed told f.p.raw (k.link c.args.b) f.block_b.raw f.block_b.named there in
    let both = to-second c.args.self.now v objects pending k c.args.a c.args.b c.in_ok-one.one c.in_ok-two.two f apart x first y second in
    let z : List ℕ = work_of h c.exchange.new.host in
    on_ok_weaker c.exchange.result (λ ch.
    subst (λ (r : DiskRest). IsDisk r z (swapped objects c.args.a c.args.b) pending) (sym c.exchange.ensures.still)
    (to-last c.args.self.now v objects pending k c.args.a c.args.b c.in_ok-one.one c.in_ok-two.two f apart x first y second z ch)) (c.exchange.ensures.exchanged told)
