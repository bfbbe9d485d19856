use Rattle.status_laws.proofs.ShardLaws.{kept_is_backed, own_shard_stays_backed, other_shards_stay, other_shards_stay_backed}
use Rattle.status_laws.proofs.shards_stay_backed.Goals as goal

pub returns : goal.returns
returns c = record { whole = kept_is_backed; own = own_shard_stays_backed; same = other_shards_stay; others = other_shards_stay_backed }
