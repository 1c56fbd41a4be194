pub mod TiledLaws
