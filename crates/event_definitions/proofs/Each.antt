-- Lists: what holds of each element, by recursion.
pub use Rattle.mesh_base.proofs.Every.{every_append, every_back, every_front, every_map}
