use Rattle.play_parts.proofs.Complete.{is_complete}
use Rattle.play_parts.proofs.Staff.{is_staffed, none_waits}
use Rattle.play_parts.proofs.law.the_parts_make_a_whole.Goals as goal

pub returns : goal.returns
returns c script media k own h legal team whole = record {
  complete = is_complete script media k own h legal team whole;
  staffed = is_staffed script media k own h team whole;
  delivered = none_waits script media k own h team whole;
}
