mod Fed
