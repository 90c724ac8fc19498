use Rattle.std.proofs.Common.{◌≡◌, ◌∙◌, ℕ, List, length, None, ap, refl, sym, subst, arith}
use Rattle.loom_host.specs.declared.outside.Role.TheVariants.{Image, Work}
use Rattle.disk_objects.specs.declared.rest.DiskRest.{DiskRest}
use Rattle.disk_objects.specs.Disk.{disk_held, disk_room}
use Rattle.image_format.proofs.Writing.{on_ok}
use Rattle.image_format.specs.Rules.{whole_break}
use Rattle.image_reader.specs.Judged.{names_missed}
use Rattle.image_reader.specs.Names.{IsRising}
use Rattle.image_reader.specs.Tally.{counted, IsFresh}
use Rattle.image_reader.proofs.Frames.{leaves, loading_none, loading_then, look_loading, work_loading}
use Rattle.image_reader.proofs.JudgeLaws.{are_of, are_stored, fresh-of, names-held}
use Rattle.image_reader.proofs.Stored.{still_stored}
use Rattle.text_lines.specs.Breaks.{image_of, with_counts}
use Rattle.image_text.specs.declared.fault.TextFault.TheVariants.{Disk, Memory}
use Rattle.image_text.specs.Assembled.{IsPartTextFault}
use Rattle.image_text.specs.Inside.{IsJudgedAt, IsTextOfWhole}
use Rattle.image_text.specs.Judged.{IsPlaced, IsTextRule, words_of}
use Rattle.image_text.specs.Lines.{head_read}
use Rattle.image_text.proofs.JudgeTexts.{are_later, disk_later, each_text, few_recs, missed_judged, none_counted, none_pending, rising_of, rule_text, stored_counted, whole_none, words_at, words_judged, words_small}
use Rattle.image_text.proofs.judging.judge_text.Goals as goal

pub new-requires : goal.new-requires
new-requires g c = let x = c.requires.read.1 in subst IsRising (sym x.names_are) x.listed.rising

pub returns-in_err-tally-clause-bad : goal.returns-in_err-tally-clause-bad
returns-in_err-tally-clause-bad g c = λ recs told are zeros.
    leaves (IsJudgedAt (with_counts recs) (whole_break (image_of (head_read c.args.head.now) recs))) c.from_residual.result Memory c.from_residual.ensures.1 tt

pub returns-in_err-tally-clause-loading : goal.returns-in_err-tally-clause-loading
returns-in_err-tally-clause-loading g c = loading_none g.H.Host c.args.disk.now.host.now

pub returns-in_err-tally-clause-rule : goal.returns-in_err-tally-clause-rule
returns-in_err-tally-clause-rule g c = leaves IsTextOfWhole c.from_residual.result Memory c.from_residual.ensures.1 tt

pub returns-in_err-tally-clause-fault : goal.returns-in_err-tally-clause-fault
returns-in_err-tally-clause-fault g c = leaves (IsPartTextFault g.H.Host c.args.disk.now.host.now c.args.disk.now.host.now) c.from_residual.result Memory c.from_residual.ensures.1 tt

pub judge_words-requires : goal.judge_words-requires
judge_words-requires g c =
    let host = g.H.Host in
    let now = c.args.disk.now.host.now in
    let rest = c.args.disk.now.rest in
    let x = c.requires.read in
    let held = c.in_ok-tally.tally.names in
    let same = c.in_ok-tally.ensures.names in
    let next = c.args.head.now.next in
    let are = are_of host now rest c.args.names held x.0 next same x.1 in
    record {
      stands = are_stored host now rest held x.0 next are;
      held = names-held host now rest held x.0 next are;
      fresh = subst (λ (ns : List ℕ). IsFresh ns c.in_ok-tally.tally) (sym same) c.in_ok-tally.ensures.fresh;
      few = omega (arith, c.requires.few, ap length same);
    }

pub returns-in_err-judge_words-clause-bad : goal.returns-in_err-judge_words-clause-bad
returns-in_err-judge_words-clause-bad g c = λ recs told are zeros.
    let f = c.in_err-judge_words.field-0.0 in
    let same = c.in_ok-tally.ensures.names in
    leaves (IsJudgedAt (with_counts recs) (whole_break (image_of (head_read c.args.head.now) recs))) c.from_residual-in_err-judge_words.result f c.from_residual-in_err-judge_words.ensures.1
    (words_judged recs c.in_ok-tally.tally.names (head_read c.args.head.now) f (same ∙ are.names_are)
    (c.in_err-judge_words.ensures.bad recs c.args.head.now.next told (are_of g.H.Host c.args.disk.now.host.now c.args.disk.now.rest c.args.names c.in_ok-tally.tally.names recs c.args.head.now.next same are)))

pub returns-in_err-judge_words-clause-held : goal.returns-in_err-judge_words-clause-held
returns-in_err-judge_words-clause-held g c = ap (λ (r : DiskRest). disk_held r) c.judge_words.ensures.rest

pub returns-in_err-judge_words-clause-room : goal.returns-in_err-judge_words-clause-room
returns-in_err-judge_words-clause-room g c = ap (λ (r : DiskRest). disk_room r) c.judge_words.ensures.rest

pub returns-in_err-judge_words-clause-loading : goal.returns-in_err-judge_words-clause-loading
returns-in_err-judge_words-clause-loading g c = look_loading g.H.Host c.args.disk.now.host.now c.judge_words.new.disk.host.now c.judge_words.ensures.read

pub returns-in_err-judge_words-clause-image : goal.returns-in_err-judge_words-clause-image
returns-in_err-judge_words-clause-image g c = c.judge_words.ensures.read.roles Image

pub returns-in_err-judge_words-clause-rule : goal.returns-in_err-judge_words-clause-rule
returns-in_err-judge_words-clause-rule g c = leaves IsTextOfWhole c.from_residual-in_err-judge_words.result c.in_err-judge_words.field-0.0 c.from_residual-in_err-judge_words.ensures.1 c.in_err-judge_words.ensures.rule

pub returns-in_err-judge_words-clause-fault : goal.returns-in_err-judge_words-clause-fault
returns-in_err-judge_words-clause-fault g c =
    leaves (IsPartTextFault g.H.Host c.args.disk.now.host.now c.judge_words.new.disk.host.now) c.from_residual-in_err-judge_words.result c.in_err-judge_words.field-0.0 c.from_residual-in_err-judge_words.ensures.1 c.in_err-judge_words.ensures.fault

pub set_counts-requires : goal.set_counts-requires
set_counts-requires g c =
    let host = g.H.Host in
    let now = c.args.disk.now.host.now in
    let rest = c.args.disk.now.rest in
    let mid = c.judge_words.new.disk.host.now in
    let between = c.judge_words.new.disk.rest in
    let x = c.requires.read in
    let first = c.in_ok-tally.tally in
    let t = c.judge_words.new.tally in
    let same = c.in_ok-tally.ensures.names in
    let next = c.args.head.now.next in
    let are = are_later host now mid rest between c.args.names t.names x.0 next c.judge_words.ensures.read c.judge_words.ensures.rest (c.judge_words.ensures.names ∙ same) x.1 in
    record {
      rising = rising_of host mid between t.names t.names x.0 next are refl;
      none = none_pending host mid between t.names x.0 next are;
      uncounted = none_counted host mid between t.names x.0 next are x.2;
      small = λ told n.
          words_small x.0 first t n x.1.listed.records (few_recs x.0 c.args.names x.1.names_are c.requires.few) (fresh-of c.args.names x.0 first x.1.names_are c.in_ok-tally.ensures.fresh)
          (c.in_ok-judge_words.ensures.ok x.0 next told (are_of host now rest c.args.names first.names x.0 next same x.1)).1;
    }

pub returns-in_err-set_counts-clause-bad : goal.returns-in_err-set_counts-clause-bad
returns-in_err-set_counts-clause-bad g c = λ recs told are zeros.
    leaves (IsJudgedAt (with_counts recs) (whole_break (image_of (head_read c.args.head.now) recs))) c.from_residual-in_err-set_counts.result (Disk c.in_err-set_counts.field-0.0) c.from_residual-in_err-set_counts.ensures.1 tt

pub returns-in_err-set_counts-clause-held : goal.returns-in_err-set_counts-clause-held
returns-in_err-set_counts-clause-held g c = c.set_counts.ensures.held ∙ ap (λ (r : DiskRest). disk_held r) c.judge_words.ensures.rest

pub returns-in_err-set_counts-clause-room : goal.returns-in_err-set_counts-clause-room
returns-in_err-set_counts-clause-room g c = c.set_counts.ensures.room ∙ ap (λ (r : DiskRest). disk_room r) c.judge_words.ensures.rest

pub returns-in_err-set_counts-clause-loading : goal.returns-in_err-set_counts-clause-loading
returns-in_err-set_counts-clause-loading g c =
    loading_then g.H.Host c.args.disk.now.host.now c.judge_words.new.disk.host.now c.set_counts.new.disk.host.now
    (look_loading g.H.Host c.args.disk.now.host.now c.judge_words.new.disk.host.now c.judge_words.ensures.read) (work_loading g.H.Host c.judge_words.new.disk.host.now c.set_counts.new.disk.host.now c.set_counts.ensures.work)

pub returns-in_err-set_counts-clause-image : goal.returns-in_err-set_counts-clause-image
returns-in_err-set_counts-clause-image g c = c.set_counts.ensures.work.others Image (λ e. cc) ∙ c.judge_words.ensures.read.roles Image

pub returns-in_err-set_counts-clause-rule : goal.returns-in_err-set_counts-clause-rule
returns-in_err-set_counts-clause-rule g c = leaves IsTextOfWhole c.from_residual-in_err-set_counts.result (Disk c.in_err-set_counts.field-0.0) c.from_residual-in_err-set_counts.ensures.1 tt

pub returns-in_err-set_counts-clause-fault : goal.returns-in_err-set_counts-clause-fault
returns-in_err-set_counts-clause-fault g c =
    leaves (IsPartTextFault g.H.Host c.args.disk.now.host.now c.set_counts.new.disk.host.now) c.from_residual-in_err-set_counts.result (Disk c.in_err-set_counts.field-0.0) c.from_residual-in_err-set_counts.ensures.1
    (disk_later g.H.Host c.args.disk.now.host.now c.judge_words.new.disk.host.now c.set_counts.new.disk.host.now c.in_err-set_counts.field-0.0 (look_loading g.H.Host c.args.disk.now.host.now c.judge_words.new.disk.host.now c.judge_words.ensures.read) c.in_err-set_counts.ensures.fault)

pub returns-clause-ok : goal.returns-clause-ok
returns-clause-ok g c = λ recs told are zeros.
    let host = g.H.Host in
    let now = c.args.disk.now.host.now in
    let rest = c.args.disk.now.rest in
    let mid = c.judge_words.new.disk.host.now in
    let between = c.judge_words.new.disk.rest in
    let first = c.in_ok-tally.tally in
    let t = c.judge_words.new.tally in
    let same = c.in_ok-tally.ensures.names in
    let next = c.args.head.now.next in
    let x = c.in_ok-judge_words.ensures.ok recs next told (are_of host now rest c.args.names first.names recs next same are) in
    let fresh = fresh-of c.args.names recs first are.names_are c.in_ok-tally.ensures.fresh in
    on_ok c.judge_missing.result
    (λ (none : names_missed (counted t) c.args.head.now.state ≡ None). (
      whole_none recs first t (head_read c.args.head.now) fresh x.1 x.0 none,
      stored_counted host mid c.set_counts.new.disk.host.now between c.set_counts.new.disk.rest recs t.names (words_of t) (c.judge_words.ensures.names ∙ same ∙ are.names_are)
          (still_stored host now mid rest between recs (c.judge_words.ensures.read.roles Work) c.judge_words.ensures.rest (are.stored told)) (c.in_ok-set_counts.ensures.sets told) (λ n there. words_at recs first t n fresh x.1 there),
    )) c.judge_missing.ensures.ok

pub returns-clause-bad : goal.returns-clause-bad
returns-clause-bad g c = λ recs told are zeros.
    let first = c.in_ok-tally.tally in
    let t = c.judge_words.new.tally in
    let next = c.args.head.now.next in
    let x = c.in_ok-judge_words.ensures.ok recs next told (are_of g.H.Host c.args.disk.now.host.now c.args.disk.now.rest c.args.names first.names recs next c.in_ok-tally.ensures.names are) in
    let fresh = fresh-of c.args.names recs first are.names_are c.in_ok-tally.ensures.fresh in
    each_text (IsPlaced c.args.names (names_missed (counted t) c.args.head.now.state)) (IsJudgedAt (with_counts recs) (whole_break (image_of (head_read c.args.head.now) recs))) c.judge_missing.result
    (λ f h. missed_judged recs first t c.args.names (head_read c.args.head.now) f are.names_are fresh x.1 x.0 h) (c.judge_missing.ensures.bad c.args.names)

pub returns-clause-held : goal.returns-clause-held
returns-clause-held g c = c.set_counts.ensures.held ∙ ap (λ (r : DiskRest). disk_held r) c.judge_words.ensures.rest

pub returns-clause-room : goal.returns-clause-room
returns-clause-room g c = c.set_counts.ensures.room ∙ ap (λ (r : DiskRest). disk_room r) c.judge_words.ensures.rest

pub returns-clause-loading : goal.returns-clause-loading
returns-clause-loading g c =
    loading_then g.H.Host c.args.disk.now.host.now c.judge_words.new.disk.host.now c.set_counts.new.disk.host.now
    (look_loading g.H.Host c.args.disk.now.host.now c.judge_words.new.disk.host.now c.judge_words.ensures.read) (work_loading g.H.Host c.judge_words.new.disk.host.now c.set_counts.new.disk.host.now c.set_counts.ensures.work)

pub returns-clause-image : goal.returns-clause-image
returns-clause-image g c = c.set_counts.ensures.work.others Image (λ e. cc) ∙ c.judge_words.ensures.read.roles Image

pub returns-clause-fault : goal.returns-clause-fault
returns-clause-fault g c =
    each_text IsTextRule (IsPartTextFault g.H.Host c.args.disk.now.host.now c.set_counts.new.disk.host.now) c.judge_missing.result (λ f h. rule_text g.H.Host c.args.disk.now.host.now c.set_counts.new.disk.host.now f h) c.judge_missing.ensures.plain
