use Rattle.long_names.specs.Words.{IsSmallInteger}
use Rattle.object_memory.proofs.ShapeLaws.{small_number}
use Rattle.blue_model.specs.Parts.{number}
use Rattle.contexts.proofs.ReadLaws.{looks_again}
use Rattle.blue_model.specs.BitBlt.{asked_of}
use Rattle.contexts.proofs.PeekPairs.{peek_fault, exits_by, of_some}
use Rattle.bitblt.proofs.AskedLaws.{lacks_rule, lacks_dest, lacks_extent, lacks_source_place, lacks_clip, lacks_all}
use Rattle.bitblt.proofs.AskedSteps.{found_rule, no_rule, no_number, found_place, no_place, stopped_place, found_all}
use Rattle.bitblt.proofs.asked.read_asked.Goals as goal

pub returns-in_err-z-clause-serves : goal.returns-in_err-z-clause-serves
returns-in_err-z-clause-serves g c = λ cpu. exits_by _ _ c.from_residual.ensures.1 (peek_fault (number 14 3) asked_of 10 c.requires.fit.ready (c.in_err-z.ensures.serves cpu))

pub returns-in_default-clause-serves : goal.returns-in_default-clause-serves
returns-in_default-clause-serves g c = λ cpu. no_number c.requires.fit.ready (c.in_ok-z.ensures.serves cpu) c.in_default.is lacks_rule

pub returns-in_default-rule_number-clause-serves : goal.returns-in_default-rule_number-clause-serves
returns-in_default-rule_number-clause-serves g c = λ cpu.
    no_rule c.requires.fit.ready (c.in_ok-z.ensures.serves cpu) c.in-Some.is c.rule_number.ensures.number (small_number _ (of_some IsSmallInteger _ _ c.in-Some.is c.in_ok-z.ensures.range)) c.in_default-rule_number.is lacks_rule

pub returns-in_err-dest-clause-serves : goal.returns-in_err-dest-clause-serves
returns-in_err-dest-clause-serves g c = λ cpu.
    let found0 = found_rule c.in-Some-rule_number.rule c.requires.fit.ready c.in_ok-z.ensures.looks c.in_ok-z.ensures.fit.ready c.in_ok-z.ensures.serves c.in-Some.is c.rule_number.ensures.number (small_number _ (of_some IsSmallInteger _ _ c.in-Some.is c.in_ok-z.ensures.range)) c.in-Some-rule_number.is in
    exits_by _ _ c.from_residual-in_err-dest.ensures.1 (stopped_place 4 c.requires.fit.ready found0 (c.in_err-dest.ensures.serves cpu))

pub returns-in_default-2-clause-serves : goal.returns-in_default-2-clause-serves
returns-in_default-2-clause-serves g c = λ cpu.
    let found0 = found_rule c.in-Some-rule_number.rule c.requires.fit.ready c.in_ok-z.ensures.looks c.in_ok-z.ensures.fit.ready c.in_ok-z.ensures.serves c.in-Some.is c.rule_number.ensures.number (small_number _ (of_some IsSmallInteger _ _ c.in-Some.is c.in_ok-z.ensures.range)) c.in-Some-rule_number.is in
    no_place 4 c.requires.fit.ready found0 (c.in_ok-dest.ensures.serves cpu) c.in_default-2.is lacks_dest

pub returns-in_default-2-clause-looks : goal.returns-in_default-2-clause-looks
returns-in_default-2-clause-looks g c =
    let found0 = found_rule c.in-Some-rule_number.rule c.requires.fit.ready c.in_ok-z.ensures.looks c.in_ok-z.ensures.fit.ready c.in_ok-z.ensures.serves c.in-Some.is c.rule_number.ensures.number (small_number _ (of_some IsSmallInteger _ _ c.in-Some.is c.in_ok-z.ensures.range)) c.in-Some-rule_number.is in
    looks_again 12 _ _ _ found0.ready found0.looks c.in_ok-dest.ensures.looks

pub returns-in_err-extent-clause-serves : goal.returns-in_err-extent-clause-serves
returns-in_err-extent-clause-serves g c = λ cpu.
    let found0 = found_rule c.in-Some-rule_number.rule c.requires.fit.ready c.in_ok-z.ensures.looks c.in_ok-z.ensures.fit.ready c.in_ok-z.ensures.serves c.in-Some.is c.rule_number.ensures.number (small_number _ (of_some IsSmallInteger _ _ c.in-Some.is c.in_ok-z.ensures.range)) c.in-Some-rule_number.is in
    let found1 = found_place 4 c.in-Some-2.dest c.requires.fit.ready found0 c.in_ok-dest.ensures.looks c.in_ok-dest.ensures.fit.ready c.in_ok-dest.ensures.serves c.in-Some-2.is in
    exits_by _ _ c.from_residual-in_err-extent.ensures.1 (stopped_place 6 c.requires.fit.ready found1 (c.in_err-extent.ensures.serves cpu))

pub returns-in_default-3-clause-serves : goal.returns-in_default-3-clause-serves
returns-in_default-3-clause-serves g c = λ cpu.
    let found0 = found_rule c.in-Some-rule_number.rule c.requires.fit.ready c.in_ok-z.ensures.looks c.in_ok-z.ensures.fit.ready c.in_ok-z.ensures.serves c.in-Some.is c.rule_number.ensures.number (small_number _ (of_some IsSmallInteger _ _ c.in-Some.is c.in_ok-z.ensures.range)) c.in-Some-rule_number.is in
    let found1 = found_place 4 c.in-Some-2.dest c.requires.fit.ready found0 c.in_ok-dest.ensures.looks c.in_ok-dest.ensures.fit.ready c.in_ok-dest.ensures.serves c.in-Some-2.is in
    no_place 6 c.requires.fit.ready found1 (c.in_ok-extent.ensures.serves cpu) c.in_default-3.is lacks_extent

pub returns-in_default-3-clause-looks : goal.returns-in_default-3-clause-looks
returns-in_default-3-clause-looks g c =
    let found0 = found_rule c.in-Some-rule_number.rule c.requires.fit.ready c.in_ok-z.ensures.looks c.in_ok-z.ensures.fit.ready c.in_ok-z.ensures.serves c.in-Some.is c.rule_number.ensures.number (small_number _ (of_some IsSmallInteger _ _ c.in-Some.is c.in_ok-z.ensures.range)) c.in-Some-rule_number.is in
    let found1 = found_place 4 c.in-Some-2.dest c.requires.fit.ready found0 c.in_ok-dest.ensures.looks c.in_ok-dest.ensures.fit.ready c.in_ok-dest.ensures.serves c.in-Some-2.is in
    looks_again 12 _ _ _ found1.ready found1.looks c.in_ok-extent.ensures.looks

pub returns-in_err-source-clause-serves : goal.returns-in_err-source-clause-serves
returns-in_err-source-clause-serves g c = λ cpu.
    let found0 = found_rule c.in-Some-rule_number.rule c.requires.fit.ready c.in_ok-z.ensures.looks c.in_ok-z.ensures.fit.ready c.in_ok-z.ensures.serves c.in-Some.is c.rule_number.ensures.number (small_number _ (of_some IsSmallInteger _ _ c.in-Some.is c.in_ok-z.ensures.range)) c.in-Some-rule_number.is in
    let found1 = found_place 4 c.in-Some-2.dest c.requires.fit.ready found0 c.in_ok-dest.ensures.looks c.in_ok-dest.ensures.fit.ready c.in_ok-dest.ensures.serves c.in-Some-2.is in
    let found2 = found_place 6 c.in-Some-3.extent c.requires.fit.ready found1 c.in_ok-extent.ensures.looks c.in_ok-extent.ensures.fit.ready c.in_ok-extent.ensures.serves c.in-Some-3.is in
    exits_by _ _ c.from_residual-in_err-source.ensures.1 (stopped_place 8 c.requires.fit.ready found2 (c.in_err-source.ensures.serves cpu))

pub returns-in_default-4-clause-serves : goal.returns-in_default-4-clause-serves
returns-in_default-4-clause-serves g c = λ cpu.
    let found0 = found_rule c.in-Some-rule_number.rule c.requires.fit.ready c.in_ok-z.ensures.looks c.in_ok-z.ensures.fit.ready c.in_ok-z.ensures.serves c.in-Some.is c.rule_number.ensures.number (small_number _ (of_some IsSmallInteger _ _ c.in-Some.is c.in_ok-z.ensures.range)) c.in-Some-rule_number.is in
    let found1 = found_place 4 c.in-Some-2.dest c.requires.fit.ready found0 c.in_ok-dest.ensures.looks c.in_ok-dest.ensures.fit.ready c.in_ok-dest.ensures.serves c.in-Some-2.is in
    let found2 = found_place 6 c.in-Some-3.extent c.requires.fit.ready found1 c.in_ok-extent.ensures.looks c.in_ok-extent.ensures.fit.ready c.in_ok-extent.ensures.serves c.in-Some-3.is in
    no_place 8 c.requires.fit.ready found2 (c.in_ok-source.ensures.serves cpu) c.in_default-4.is lacks_source_place

pub returns-in_default-4-clause-looks : goal.returns-in_default-4-clause-looks
returns-in_default-4-clause-looks g c =
    let found0 = found_rule c.in-Some-rule_number.rule c.requires.fit.ready c.in_ok-z.ensures.looks c.in_ok-z.ensures.fit.ready c.in_ok-z.ensures.serves c.in-Some.is c.rule_number.ensures.number (small_number _ (of_some IsSmallInteger _ _ c.in-Some.is c.in_ok-z.ensures.range)) c.in-Some-rule_number.is in
    let found1 = found_place 4 c.in-Some-2.dest c.requires.fit.ready found0 c.in_ok-dest.ensures.looks c.in_ok-dest.ensures.fit.ready c.in_ok-dest.ensures.serves c.in-Some-2.is in
    let found2 = found_place 6 c.in-Some-3.extent c.requires.fit.ready found1 c.in_ok-extent.ensures.looks c.in_ok-extent.ensures.fit.ready c.in_ok-extent.ensures.serves c.in-Some-3.is in
    looks_again 12 _ _ _ found2.ready found2.looks c.in_ok-source.ensures.looks

pub returns-in_err-clip-clause-serves : goal.returns-in_err-clip-clause-serves
returns-in_err-clip-clause-serves g c = λ cpu.
    let found0 = found_rule c.in-Some-rule_number.rule c.requires.fit.ready c.in_ok-z.ensures.looks c.in_ok-z.ensures.fit.ready c.in_ok-z.ensures.serves c.in-Some.is c.rule_number.ensures.number (small_number _ (of_some IsSmallInteger _ _ c.in-Some.is c.in_ok-z.ensures.range)) c.in-Some-rule_number.is in
    let found1 = found_place 4 c.in-Some-2.dest c.requires.fit.ready found0 c.in_ok-dest.ensures.looks c.in_ok-dest.ensures.fit.ready c.in_ok-dest.ensures.serves c.in-Some-2.is in
    let found2 = found_place 6 c.in-Some-3.extent c.requires.fit.ready found1 c.in_ok-extent.ensures.looks c.in_ok-extent.ensures.fit.ready c.in_ok-extent.ensures.serves c.in-Some-3.is in
    let found3 = found_place 8 c.in-Some-4.source c.requires.fit.ready found2 c.in_ok-source.ensures.looks c.in_ok-source.ensures.fit.ready c.in_ok-source.ensures.serves c.in-Some-4.is in
    exits_by _ _ c.from_residual-in_err-clip.ensures.1 (stopped_place 10 c.requires.fit.ready found3 (c.in_err-clip.ensures.serves cpu))

pub returns-in_default-5-clause-serves : goal.returns-in_default-5-clause-serves
returns-in_default-5-clause-serves g c = λ cpu.
    let found0 = found_rule c.in-Some-rule_number.rule c.requires.fit.ready c.in_ok-z.ensures.looks c.in_ok-z.ensures.fit.ready c.in_ok-z.ensures.serves c.in-Some.is c.rule_number.ensures.number (small_number _ (of_some IsSmallInteger _ _ c.in-Some.is c.in_ok-z.ensures.range)) c.in-Some-rule_number.is in
    let found1 = found_place 4 c.in-Some-2.dest c.requires.fit.ready found0 c.in_ok-dest.ensures.looks c.in_ok-dest.ensures.fit.ready c.in_ok-dest.ensures.serves c.in-Some-2.is in
    let found2 = found_place 6 c.in-Some-3.extent c.requires.fit.ready found1 c.in_ok-extent.ensures.looks c.in_ok-extent.ensures.fit.ready c.in_ok-extent.ensures.serves c.in-Some-3.is in
    let found3 = found_place 8 c.in-Some-4.source c.requires.fit.ready found2 c.in_ok-source.ensures.looks c.in_ok-source.ensures.fit.ready c.in_ok-source.ensures.serves c.in-Some-4.is in
    no_place 10 c.requires.fit.ready found3 (c.in_ok-clip.ensures.serves cpu) c.in_default-5.is lacks_clip

pub returns-in_default-5-clause-looks : goal.returns-in_default-5-clause-looks
returns-in_default-5-clause-looks g c =
    let found0 = found_rule c.in-Some-rule_number.rule c.requires.fit.ready c.in_ok-z.ensures.looks c.in_ok-z.ensures.fit.ready c.in_ok-z.ensures.serves c.in-Some.is c.rule_number.ensures.number (small_number _ (of_some IsSmallInteger _ _ c.in-Some.is c.in_ok-z.ensures.range)) c.in-Some-rule_number.is in
    let found1 = found_place 4 c.in-Some-2.dest c.requires.fit.ready found0 c.in_ok-dest.ensures.looks c.in_ok-dest.ensures.fit.ready c.in_ok-dest.ensures.serves c.in-Some-2.is in
    let found2 = found_place 6 c.in-Some-3.extent c.requires.fit.ready found1 c.in_ok-extent.ensures.looks c.in_ok-extent.ensures.fit.ready c.in_ok-extent.ensures.serves c.in-Some-3.is in
    let found3 = found_place 8 c.in-Some-4.source c.requires.fit.ready found2 c.in_ok-source.ensures.looks c.in_ok-source.ensures.fit.ready c.in_ok-source.ensures.serves c.in-Some-4.is in
    looks_again 12 _ _ _ found3.ready found3.looks c.in_ok-clip.ensures.looks

pub returns-in_err-clip_extent-clause-serves : goal.returns-in_err-clip_extent-clause-serves
returns-in_err-clip_extent-clause-serves g c = λ cpu.
    let found0 = found_rule c.in-Some-rule_number.rule c.requires.fit.ready c.in_ok-z.ensures.looks c.in_ok-z.ensures.fit.ready c.in_ok-z.ensures.serves c.in-Some.is c.rule_number.ensures.number (small_number _ (of_some IsSmallInteger _ _ c.in-Some.is c.in_ok-z.ensures.range)) c.in-Some-rule_number.is in
    let found1 = found_place 4 c.in-Some-2.dest c.requires.fit.ready found0 c.in_ok-dest.ensures.looks c.in_ok-dest.ensures.fit.ready c.in_ok-dest.ensures.serves c.in-Some-2.is in
    let found2 = found_place 6 c.in-Some-3.extent c.requires.fit.ready found1 c.in_ok-extent.ensures.looks c.in_ok-extent.ensures.fit.ready c.in_ok-extent.ensures.serves c.in-Some-3.is in
    let found3 = found_place 8 c.in-Some-4.source c.requires.fit.ready found2 c.in_ok-source.ensures.looks c.in_ok-source.ensures.fit.ready c.in_ok-source.ensures.serves c.in-Some-4.is in
    let found4 = found_place 10 c.in-Some-5.clip c.requires.fit.ready found3 c.in_ok-clip.ensures.looks c.in_ok-clip.ensures.fit.ready c.in_ok-clip.ensures.serves c.in-Some-5.is in
    exits_by _ _ c.from_residual-in_err-clip_extent.ensures.1 (stopped_place 12 c.requires.fit.ready found4 (c.in_err-clip_extent.ensures.serves cpu))

pub returns-in_default-6-clause-serves : goal.returns-in_default-6-clause-serves
returns-in_default-6-clause-serves g c = λ cpu.
    let found0 = found_rule c.in-Some-rule_number.rule c.requires.fit.ready c.in_ok-z.ensures.looks c.in_ok-z.ensures.fit.ready c.in_ok-z.ensures.serves c.in-Some.is c.rule_number.ensures.number (small_number _ (of_some IsSmallInteger _ _ c.in-Some.is c.in_ok-z.ensures.range)) c.in-Some-rule_number.is in
    let found1 = found_place 4 c.in-Some-2.dest c.requires.fit.ready found0 c.in_ok-dest.ensures.looks c.in_ok-dest.ensures.fit.ready c.in_ok-dest.ensures.serves c.in-Some-2.is in
    let found2 = found_place 6 c.in-Some-3.extent c.requires.fit.ready found1 c.in_ok-extent.ensures.looks c.in_ok-extent.ensures.fit.ready c.in_ok-extent.ensures.serves c.in-Some-3.is in
    let found3 = found_place 8 c.in-Some-4.source c.requires.fit.ready found2 c.in_ok-source.ensures.looks c.in_ok-source.ensures.fit.ready c.in_ok-source.ensures.serves c.in-Some-4.is in
    let found4 = found_place 10 c.in-Some-5.clip c.requires.fit.ready found3 c.in_ok-clip.ensures.looks c.in_ok-clip.ensures.fit.ready c.in_ok-clip.ensures.serves c.in-Some-5.is in
    no_place 12 c.requires.fit.ready found4 (c.in_ok-clip_extent.ensures.serves cpu) c.in_default-6.is lacks_all

pub returns-in_default-6-clause-looks : goal.returns-in_default-6-clause-looks
returns-in_default-6-clause-looks g c =
    let found0 = found_rule c.in-Some-rule_number.rule c.requires.fit.ready c.in_ok-z.ensures.looks c.in_ok-z.ensures.fit.ready c.in_ok-z.ensures.serves c.in-Some.is c.rule_number.ensures.number (small_number _ (of_some IsSmallInteger _ _ c.in-Some.is c.in_ok-z.ensures.range)) c.in-Some-rule_number.is in
    let found1 = found_place 4 c.in-Some-2.dest c.requires.fit.ready found0 c.in_ok-dest.ensures.looks c.in_ok-dest.ensures.fit.ready c.in_ok-dest.ensures.serves c.in-Some-2.is in
    let found2 = found_place 6 c.in-Some-3.extent c.requires.fit.ready found1 c.in_ok-extent.ensures.looks c.in_ok-extent.ensures.fit.ready c.in_ok-extent.ensures.serves c.in-Some-3.is in
    let found3 = found_place 8 c.in-Some-4.source c.requires.fit.ready found2 c.in_ok-source.ensures.looks c.in_ok-source.ensures.fit.ready c.in_ok-source.ensures.serves c.in-Some-4.is in
    let found4 = found_place 10 c.in-Some-5.clip c.requires.fit.ready found3 c.in_ok-clip.ensures.looks c.in_ok-clip.ensures.fit.ready c.in_ok-clip.ensures.serves c.in-Some-5.is in
    looks_again 12 _ _ _ found4.ready found4.looks c.in_ok-clip_extent.ensures.looks

pub returns-clause-serves : goal.returns-clause-serves
returns-clause-serves g c = λ cpu.
    let found0 = found_rule c.in-Some-rule_number.rule c.requires.fit.ready c.in_ok-z.ensures.looks c.in_ok-z.ensures.fit.ready c.in_ok-z.ensures.serves c.in-Some.is c.rule_number.ensures.number (small_number _ (of_some IsSmallInteger _ _ c.in-Some.is c.in_ok-z.ensures.range)) c.in-Some-rule_number.is in
    let found1 = found_place 4 c.in-Some-2.dest c.requires.fit.ready found0 c.in_ok-dest.ensures.looks c.in_ok-dest.ensures.fit.ready c.in_ok-dest.ensures.serves c.in-Some-2.is in
    let found2 = found_place 6 c.in-Some-3.extent c.requires.fit.ready found1 c.in_ok-extent.ensures.looks c.in_ok-extent.ensures.fit.ready c.in_ok-extent.ensures.serves c.in-Some-3.is in
    let found3 = found_place 8 c.in-Some-4.source c.requires.fit.ready found2 c.in_ok-source.ensures.looks c.in_ok-source.ensures.fit.ready c.in_ok-source.ensures.serves c.in-Some-4.is in
    let found4 = found_place 10 c.in-Some-5.clip c.requires.fit.ready found3 c.in_ok-clip.ensures.looks c.in_ok-clip.ensures.fit.ready c.in_ok-clip.ensures.serves c.in-Some-5.is in
    let found5 = found_place 12 c.in-Some-6.clip_extent c.requires.fit.ready found4 c.in_ok-clip_extent.ensures.looks c.in_ok-clip_extent.ensures.fit.ready c.in_ok-clip_extent.ensures.serves c.in-Some-6.is in
    found_all cpu c.requires.fit.ready found5

pub returns-clause-looks : goal.returns-clause-looks
returns-clause-looks g c =
    let found0 = found_rule c.in-Some-rule_number.rule c.requires.fit.ready c.in_ok-z.ensures.looks c.in_ok-z.ensures.fit.ready c.in_ok-z.ensures.serves c.in-Some.is c.rule_number.ensures.number (small_number _ (of_some IsSmallInteger _ _ c.in-Some.is c.in_ok-z.ensures.range)) c.in-Some-rule_number.is in
    let found1 = found_place 4 c.in-Some-2.dest c.requires.fit.ready found0 c.in_ok-dest.ensures.looks c.in_ok-dest.ensures.fit.ready c.in_ok-dest.ensures.serves c.in-Some-2.is in
    let found2 = found_place 6 c.in-Some-3.extent c.requires.fit.ready found1 c.in_ok-extent.ensures.looks c.in_ok-extent.ensures.fit.ready c.in_ok-extent.ensures.serves c.in-Some-3.is in
    let found3 = found_place 8 c.in-Some-4.source c.requires.fit.ready found2 c.in_ok-source.ensures.looks c.in_ok-source.ensures.fit.ready c.in_ok-source.ensures.serves c.in-Some-4.is in
    let found4 = found_place 10 c.in-Some-5.clip c.requires.fit.ready found3 c.in_ok-clip.ensures.looks c.in_ok-clip.ensures.fit.ready c.in_ok-clip.ensures.serves c.in-Some-5.is in
    let found5 = found_place 12 c.in-Some-6.clip_extent c.requires.fit.ready found4 c.in_ok-clip_extent.ensures.looks c.in_ok-clip_extent.ensures.fit.ready c.in_ok-clip_extent.ensures.serves c.in-Some-6.is in
    found5.looks
