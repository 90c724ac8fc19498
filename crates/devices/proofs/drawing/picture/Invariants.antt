use Rattle.std.proofs.Common.{◌≡◌, ◌++◌, [], IsTrue, map}
use Rattle.std.specs.List.{concat, range_with_len}
use Rattle.object_memory.specs.Shape.{Looks}
use Rattle.blue_model.specs.Forms.{row_bytes}
use Rattle.devices.specs.Inside.{words_told}
use Rattle.object_memory.specs.Calls.{IsFit}
use Rattle.devices.proofs.drawing.picture.Given as goal

abbrev pub invariant-rows : goal.invariant-rows
invariant-rows g l =
    let told = g.M.ObjectMemory.told in
    record {
      text : IsTrue ((told l.initial.m).tells) → l.text ≡ l.initial.text ++ concat (map (row_bytes l.width (words_told (told l.initial.m) 13)) (range_with_len 0 l.y));
      looks : Looks [] (told l.initial.m) (told l.m);
      fit : IsFit g.M.ObjectMemory l.m;
      lender : g.M.ObjectMemory.lender l.m ≡ g.M.ObjectMemory.lender l.initial.m;
      outside : g.M.ObjectMemory.outside l.m ≡ g.M.ObjectMemory.outside l.initial.m;
    }
