pub mod SeqAuth
