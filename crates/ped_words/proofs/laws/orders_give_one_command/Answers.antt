use Rattle.ped_words.proofs.Orders.{orders_give_one}
use Rattle.ped_words.proofs.laws.orders_give_one_command.Goals as goal

pub returns : goal.returns
returns c = orders_give_one
