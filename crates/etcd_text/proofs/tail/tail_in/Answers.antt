use Rattle.etcd_text.proofs.Spelling.{is_spelled, no_count, no_first, no_generation, no_second}
use Rattle.etcd_text.proofs.tail.tail_in.Goals as goal

pub returns-in_default : goal.returns-in_default
returns-in_default c = no_first c.args.bytes.now c.in_default.ensures

pub returns-in_default-parted : goal.returns-in_default-parted
returns-in_default-parted c = no_second c.args.bytes.now c.in-Some.first.now c.in-Some.rest.now c.in-Some.ensures c.in_default-parted.ensures

pub returns-in_default-number_in : goal.returns-in_default-number_in
returns-in_default-number_in c = no_generation c.args.bytes.now c.in-Some.first.now c.in-Some.rest.now c.in-Some.ensures c.in_default-number_in.ensures

pub returns-in_default-number_in-2 : goal.returns-in_default-number_in-2
returns-in_default-number_in-2 c =
    no_count c.args.bytes.now c.in-Some.first.now c.in-Some.rest.now c.in-Some-parted.second.now c.in-Some-parted.owner.now c.in-Some.ensures c.in-Some-parted.ensures c.in_default-number_in-2.ensures
