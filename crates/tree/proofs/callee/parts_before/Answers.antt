use Rattle.std.proofs.Common.{◌≡◌, ◌<◌, length, get_or, drop, rules}
use Rattle.tree.proofs.MovedNodes.{starts_some, order_ends}
use Rattle.tree.proofs.callee.parts_before.Goals as goal

pub returns-in-Some-clause-within : goal.returns-in-Some-clause-within
returns-in-Some-clause-within c =
    let es = c.args.nodes.now in
    let x = c.in-Some.node.now in
    let here : c.args.number < length es = search rules in
    let read : x ≡ get_or es c.args.number x = search rules in
    order_ends (length c.args.parts.now) x.first (drop c.args.number es) (starts_some (length c.args.parts.now) 0 es c.args.number x c.requires here read).1

pub returns-in-Some-clause-front : goal.returns-in-Some-clause-front
returns-in-Some-clause-front c =
    let es = c.args.nodes.now in
    let x = c.in-Some.node.now in
    let here : c.args.number < length es = search rules in
    let read : x ≡ get_or es c.args.number x = search rules in
    (starts_some (length c.args.parts.now) 0 es c.args.number x c.requires here read).0

pub returns-in-Some-clause-behind : goal.returns-in-Some-clause-behind
returns-in-Some-clause-behind c =
    let es = c.args.nodes.now in
    let x = c.in-Some.node.now in
    let here : c.args.number < length es = search rules in
    let read : x ≡ get_or es c.args.number x = search rules in
    (starts_some (length c.args.parts.now) 0 es c.args.number x c.requires here read).1
