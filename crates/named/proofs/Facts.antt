-- What crates above may cite of this one's proofs.
pub use Rattle.named.proofs.acts.Continuity.{broker_goes_further, broker_stays, on_by_act, on_if_quiet, world_holds}
pub use Rattle.named.proofs.creations.Beginnings.{get_there, listed_open}
pub use Rattle.named.proofs.downtime.QueueSteps.{its_queue}
pub use Rattle.named.proofs.beginnings.Renewals.{holds_same, renewed_boots, renewed_is, tells_same}
pub use Rattle.named.proofs.acts.Shapes.{alone_alike, evict_alike, recovered_shape, start_alike, step_alike}
pub use Rattle.named.proofs.promises.KeptQueues.{kept_queue}
pub use Rattle.named.proofs.beginnings.Migrations.{migrated_boots, migrated_is}
pub use Rattle.named.proofs.acts.OneSlot.{directory_as_it_was, get_set_other, some_is}
pub use Rattle.named.proofs.creations.Steps.{closed_where_free, is_free}
pub use Rattle.named.proofs.histories.Rotations.{all_quiet, may_rotate}
pub use Rattle.named.proofs.promises.Promises.{promises_well}
pub use Rattle.named.proofs.acts.Comings.{came_further, came_of_itself, came_over_rotation, came_unrotated, queues_came}
pub use Rattle.named.proofs.acts.Looks.{none_some, open_below}
