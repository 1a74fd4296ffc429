-- Any two results that a promise of this crate allows are equal, and so is each lent byte afterwards.
-- Stated of the promises as the check reads them: `Reads.Post` of each public function.
-- Assumes nothing.
use mathlib.Core.Path.{◌≡◌, sym, ◌∙◌}
use contract.Lifetimes.{Lfts}
use denote.Triple.Clauses.{AtExit}
use borrow.Fn.Kinds.{Dens, ended_of, res_t}
use Rattle.formula.proofs.node.node_at.Kinds as node-at-kinds
use Rattle.formula.proofs.node.node_at.Reads as Node-at
use Rattle.formula.proofs.node.put_node.Kinds as put-node-kinds
use Rattle.formula.proofs.node.put_node.Reads as put-node
use Rattle.formula.proofs.node.fault.Kinds as fault-kinds
use Rattle.formula.proofs.node.fault.Reads as fault
use Rattle.formula.proofs.table.check.Kinds as table-check-kinds
use Rattle.formula.proofs.table.check.Reads as table-check

pub node-at-settled : (κs : Lfts 1) (a : Dens κs node-at-kinds.ps) (r q : (res_t node-at-kinds.r κs).Denot)
    (s t : AtExit (ended_of 1 node-at-kinds.ps node-at-kinds.r) κs)
    → Node-at.Post κs a r s → Node-at.Post κs a q t → r ≡ q
node-at-settled κs a r q s t e f = e ∙ sym f

pub put-node-settled : (κs : Lfts 1) (a : Dens κs put-node-kinds.ps) (r q : (res_t put-node-kinds.r κs).Denot)
    (s t : AtExit (ended_of 1 put-node-kinds.ps put-node-kinds.r) κs)
    → put-node.Post κs a r s → put-node.Post κs a q t → s.0.now ≡ t.0.now
put-node-settled κs a r q s t e f = e ∙ sym f

pub fault-settled : (κs : Lfts 0) (a : Dens κs fault-kinds.ps) (r q : (res_t fault-kinds.r κs).Denot)
    (s t : AtExit (ended_of 0 fault-kinds.ps fault-kinds.r) κs)
    → fault.Post κs a r s → fault.Post κs a q t → r ≡ q
fault-settled κs a r q s t e f = e ∙ sym f

pub table-check-settled : (κs : Lfts 1) (a : Dens κs table-check-kinds.ps) (r q : (res_t table-check-kinds.r κs).Denot)
    (s t : AtExit (ended_of 1 table-check-kinds.ps table-check-kinds.r) κs)
    → table-check.Post κs a r s → table-check.Post κs a q t → r ≡ q
table-check-settled κs a r q s t e f = e ∙ sym f
