-- `apply` meets its contract.
use Rattle.evaluator.proofs.HandLaws.{applied_stores, applied-faults, low_small, applied_pushes, applied_pops, applied-forks}
use Rattle.evaluator.proofs.Hand.apply.Goals as goal

pub push_value-requires : goal.push_value-requires
push_value-requires c =
    let q = c.requires in
    (low_small c.args.self c.args.rows.now c.args.r c.args.e q.0 q.2 q.4 q.6 q.7, q.2, q.3)

pub pop_value-requires : goal.pop_value-requires
pop_value-requires c =
    let q = c.requires in
    (low_small c.args.self c.args.rows.now c.args.r c.args.e q.0 q.2 q.4 q.6 q.7, q.8, q.1, q.2, q.3)

pub returns-in-Stores : goal.returns-in-Stores
returns-in-Stores c =
    let q = c.requires in
    let p = c.from-p in
    let w = c.put.ensures in
    applied_stores c.args.self c.args.rows.now c.args.r c.args.e q.0 q.2 q.4 p.result.num p.result.kind c.in-Stores.is p.ensures w.nums_after w.kinds_after c.go_on.ensures

pub returns-in-Pushes : goal.returns-in-Pushes
returns-in-Pushes c =
    let q = c.requires in
    applied_pushes c.args.self c.args.rows.now c.args.r c.args.e q.0 q.2 q.4 q.6 q.7 c.in-Pushes.is c.push_value.ensures

pub returns-in-Pops : goal.returns-in-Pops
returns-in-Pops c =
    let q = c.requires in
    applied_pops c.args.self c.args.rows.now c.args.r c.args.e q.0 q.2 q.4 q.6 q.7 c.in-Pops.is q.8 c.pop_value.ensures

pub returns-in-Faults : goal.returns-in-Faults
returns-in-Faults c =
    let q = c.requires in
    applied-faults c.args.self c.args.rows.now c.args.r c.args.e q.0 q.2 q.4 c.in-Faults.is c.end_with-in-Faults.ensures

pub returns-in-Forks : goal.returns-in-Forks
returns-in-Forks c =
    let q = c.requires in
    let k = c.in-Forks.is in
    let u = c.record_bits in
    let o = c.open_fork in
    let w = o.ensures in
    applied-forks c.args.self c.args.rows.now c.args.r c.args.e q.0 q.2 q.4 u.result u.ensures (q.5 k) o.new.rows.sides w.keeps k
    w.value w.same_registers w.banks_after w.records_after w.same_pile
