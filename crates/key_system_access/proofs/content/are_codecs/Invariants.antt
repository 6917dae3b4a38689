use Rattle.std.proofs.Common.{◌≡◌, length}
use Rattle.key_system_access.specs.ContentType.{are_further, are_codecs}
use Rattle.key_system_access.proofs.content.are_codecs.Given as goal

abbrev pub invariant-loop-part : goal.invariant-loop-part
invariant-loop-part l = are_further l.medium l.parts ≡ are_codecs l.medium l.text

abbrev pub decreases-loop-part : goal.decreases-loop-part
decreases-loop-part l = length l.parts
