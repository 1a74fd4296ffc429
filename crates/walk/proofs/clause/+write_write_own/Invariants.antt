-- What falls is the node number: twice it for a node's own list, and one more for the node as it is seen as a child, which comes
-- first. Assumes nothing.
use Rattle.std.proofs.Common.{◌+◌, ◌*◌}
use Rattle.walk.proofs.clause.+write_write_own.Given as goal

abbrev pub decreases-write : goal.decreases-write
decreases-write l = 2 * l.node + 1

abbrev pub decreases-write_own : goal.decreases-write_own
decreases-write_own l = 2 * l.node
