use Rattle.disk_objects.proofs.FunctionLaws.{put-is}
use Rattle.disk_objects.proofs.laws.a_put_changes_one_name.Goals as goal

pub returns : goal.returns
returns c = λ rest now work after objects pending left r count k is. put-is rest now work after objects pending left k r count is
