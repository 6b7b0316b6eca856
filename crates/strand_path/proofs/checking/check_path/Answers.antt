use Rattle.std.proofs.Common.{sym, subst, arith}
use Rattle.strand_path.specs.Chains.{IsChain, events_of}
use Rattle.strand_path.proofs.Check.Bounds.{none_longer, route_chain}
use Rattle.strand_path.proofs.checking.check_path.Goals as goal

pub returns-clause-chain : goal.returns-clause-chain
returns-clause-chain c = λ e.
    let checked = c.is_checked.ensures.yes e in
    let mode = c.args.graph.now.mode in
    let t = c.args.graph.now.events in
    subst (λ xs. IsChain mode t (events_of t xs)) (sym checked.chain) (route_chain mode t c.args.path.now.route checked.route)

pub returns-clause-longest : goal.returns-clause-longest
returns-clause-longest c = λ e other chain.
    let checked = c.is_checked.ensures.yes e in
    omega (arith, none_longer c.args.graph.now.mode c.args.graph.now.events c.args.path.now.levels checked.levels other chain, checked.greatest)
