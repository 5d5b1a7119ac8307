mod Pieces
mod HostLaws
