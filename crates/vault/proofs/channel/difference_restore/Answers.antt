-- An octave that is restored is as long as its values.
use Rattle.vault.proofs.BackLaws.{restored_length}
use Rattle.vault.proofs.channel.difference_restore.Goals as goal

pub convert_channel-requires : goal.convert_channel-requires
convert_channel-requires c = restored_length
