-- An octave in difference order is as long as the octave.
use Rattle.vault.proofs.BackLaws.{order_length}
use Rattle.vault.proofs.channel.difference_order.Goals as goal

pub convert_channel-requires : goal.convert_channel-requires
convert_channel-requires c = order_length
